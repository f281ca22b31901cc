use Rattle.std.proofs.Common.{◌≡◌, ◌++◌, length, map}
use Rattle.l6_marks.specs.Marks.{below}
use Rattle.l6_marks.proofs.marks.push_below.Given as goal

-- what is below the columns so far, and below those that are left, is below all
abbrev pub invariant-loop-column : goal.invariant-loop-column
invariant-loop-column l = l.text.items ++ map below l.rest ≡ l.fn.text.items ++ map below l.fn.columns

abbrev pub decreases-loop-column : goal.decreases-loop-column
decreases-loop-column l = length l.rest
