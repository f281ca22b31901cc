use Rattle.std.proofs.Common.{◌≡◌, ◌+◌, length}
use Rattle.l6_card.specs.Objection as spec
use Rattle.l6_card.proofs.solid.count_blanks.Given as goal

-- the blanks so far and those that the rest begins with are those of all
abbrev pub invariant-loop-column : goal.invariant-loop-column
invariant-loop-column l = record {
  all : l.count + spec.count_blanks l.rest ≡ spec.count_blanks l.columns;
  whole : l.count + length l.rest ≡ length l.columns;
}

abbrev pub decreases-loop-column : goal.decreases-loop-column
decreases-loop-column l = length l.rest
