use Rattle.std.proofs.Common.{◌≡◌, ◌+◌, ◌≤◌, length}
use Rattle.l6_check.specs.Marked as spec
use Rattle.l6_check.proofs.marked.past_groups.Given as goal

-- what is past the last group so far, with the columns that are left, is what is past the last of all
abbrev pub invariant-loop-column : goal.invariant-loop-column
invariant-loop-column l = record {
  same : spec.past_last spec.closes l.past l.at l.rest ≡ spec.past_last spec.closes l.start 0 l.columns;
  few : l.past ≤ l.start + l.at;
  whole : l.at + length l.rest ≡ length l.columns;
}

abbrev pub decreases-loop-column : goal.decreases-loop-column
decreases-loop-column l = length l.rest
