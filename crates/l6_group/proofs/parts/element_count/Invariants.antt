use Rattle.std.proofs.Common.{◌≡◌, ◌+◌, ◌≤◌, length}
use Rattle.l6_group.specs.Element.{elements_of}
use Rattle.l6_group.proofs.parts.element_count.Given as goal

-- those that are counted, less one, and those that are left are all; and each has a column
abbrev pub invariant-loop-others : goal.invariant-loop-others
invariant-loop-others l =
    (l.count + length (elements_of l.rest) ≡ length (elements_of l.columns) + 1)
    × (l.count + length l.rest ≤ length l.columns + 1)

abbrev pub decreases-loop-others : goal.decreases-loop-others
decreases-loop-others l = length l.rest
