use Rattle.std.proofs.Common.{◌≡◌, ◌+◌, drop, length}
use Rattle.l6_group.specs.Element.{elements_of}
use Rattle.l6_group.specs.Objection.{first_misfit}
use Rattle.l6_group.proofs.objection.first_misfit.Given as goal

-- the first misfit of what is left is that of the group
abbrev pub invariant-loop-shape : goal.invariant-loop-shape
invariant-loop-shape l =
    (first_misfit l.start (drop l.shape-index l.shapes) (elements_of l.rest)
    ≡ first_misfit 0 l.shapes (elements_of l.columns))
    × (l.start + length l.rest ≡ length l.columns)
