use Rattle.std.proofs.Common.{◌≡◌, length}
use Rattle.l6_marks.specs.Marks.{past_all}
use Rattle.l6_marks.proofs.marks.past_all.Given as goal

-- what will be ahead after the columns that are left
abbrev pub invariant-loop-column : goal.invariant-loop-column
invariant-loop-column l = past_all l.next l.rest ≡ past_all l.fn.ahead l.fn.columns

abbrev pub decreases-loop-column : goal.decreases-loop-column
decreases-loop-column l = length l.rest
