use Rattle.std.proofs.Common.{◌≡◌, ◌+◌, length}
use Rattle.l6_card.specs.Objection as spec
use Rattle.l6_card.proofs.solid.count_solid.Given as goal

-- the columns so far and those up to the last of the rest that is no blank are those of all
abbrev pub invariant-loop-following : goal.invariant-loop-following
invariant-loop-following l = record {
  all : l.count + spec.count_solid l.rest ≡ spec.count_solid l.columns;
  whole : l.count + length l.rest ≡ length l.columns;
}

abbrev pub decreases-loop-following : goal.decreases-loop-following
decreases-loop-following l = length l.rest
