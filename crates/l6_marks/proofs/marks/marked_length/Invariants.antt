use Rattle.std.proofs.Common.{◌≡◌, ◌+◌, ◌≤◌, length}
use Rattle.l6_marks.specs.Marks.{marked_length}
use Rattle.l6_marks.proofs.Reaching.{reached}
use Rattle.l6_marks.proofs.marks.marked_length.Given as goal

-- the last column that is marked is the one that was found, or one of those that are left
abbrev pub invariant-loop-column : goal.invariant-loop-column
invariant-loop-column l = record {
  last : reached l.found l.place (marked_length l.next l.rest) ≡ marked_length l.fn.ahead l.fn.columns;
  place : l.place + length l.rest ≡ length l.fn.columns;
  found : l.found ≤ l.place;
}

abbrev pub decreases-loop-column : goal.decreases-loop-column
decreases-loop-column l = length l.rest
