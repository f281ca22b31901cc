use Rattle.std.proofs.Common.{◌≡◌, ◌+◌, ◌≤◌, length}
use Rattle.l6_check.specs.Marked as spec
use Rattle.l6_check.proofs.marked.count_solid.Given as goal

-- those up to the last so far that is no blank, with the columns that are left, are those of all
abbrev pub invariant-loop-column : goal.invariant-loop-column
invariant-loop-column l = record {
  same : spec.past_last spec.is_solid l.past l.at l.rest ≡ spec.past_last spec.is_solid 0 0 l.columns;
  few : l.past ≤ l.at;
  whole : l.at + length l.rest ≡ length l.columns;
}

abbrev pub decreases-loop-column : goal.decreases-loop-column
decreases-loop-column l = length l.rest
