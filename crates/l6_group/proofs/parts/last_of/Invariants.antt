use Rattle.std.proofs.Common.{◌≡◌, length}
use Rattle.l6_group.specs.Element.{elements_of}
use Rattle.l6_group.specs.Objection.{last_of}
use Rattle.l6_group.proofs.parts.last_of.Given as goal

-- the last element of what is left is that of the group
abbrev pub invariant-loop-others : goal.invariant-loop-others
invariant-loop-others l = last_of (elements_of l.rest) ≡ last_of (elements_of l.columns)

abbrev pub decreases-loop-others : goal.decreases-loop-others
decreases-loop-others l = length l.rest
