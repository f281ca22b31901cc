use Rattle.std.proofs.Common.{◌≡◌, take}
use Rattle.std.specs.List.{flat_map}
use Rattle.l6_check.specs.inner.Marks.{marked}
use Rattle.l6_check.proofs.marks.mark_each.Given as goal

-- the numbers of the things so far are marked
abbrev pub invariant-loop-thing : goal.invariant-loop-thing
invariant-loop-thing g l = l.marks ≡ marked l.fn.marks (flat_map g.M.Marker.numbers (take l.thing-index l.things))
