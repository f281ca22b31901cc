use Rattle.std.proofs.Common.{◌≡◌, ◌++◌, length}
use Rattle.l6_marks.specs.Marks.{signs}
use Rattle.l6_marks.proofs.marks.push_signs.Given as goal

-- the signs so far and those that are left are all
abbrev pub invariant-loop-column : goal.invariant-loop-column
invariant-loop-column l =
    l.text.items ++ signs l.next l.rest ≡ l.fn.text.items ++ signs l.fn.ahead l.fn.columns

abbrev pub decreases-loop-column : goal.decreases-loop-column
decreases-loop-column l = length l.rest
