use Rattle.std.proofs.Common.{◌≡◌, ℕ, ◌+◌, ◌*◌, ◌<◌, length, slice_index}
use Rattle.l6_places.specs.inner.Tree.{leaf_between}
use Rattle.l6_places.proofs.building.fill.Given as goal

abbrev pub invariant-loop-place : goal.invariant-loop-place
invariant-loop-place l =
    (length l.nodes.items ≡ 2 * l.leaves)
    × ((at : ℕ) → at < l.place
    → slice_index l.nodes.items (l.leaves + at) ≡ leaf_between l.first l.end at)
