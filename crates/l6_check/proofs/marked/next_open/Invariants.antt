use Rattle.std.proofs.Common.{◌≡◌, ◌+◌, length}
use Rattle.l6_check.specs.Marked as spec
use Rattle.l6_check.proofs.marked.next_open.Given as goal

-- the columns so far and those before the first `(` of the rest are those of all
abbrev pub invariant-loop-column : goal.invariant-loop-column
invariant-loop-column l = record {
  all : l.count + spec.next_open l.rest ≡ spec.next_open l.columns;
  whole : l.count + length l.rest ≡ length l.columns;
}

abbrev pub decreases-loop-column : goal.decreases-loop-column
decreases-loop-column l = length l.rest
