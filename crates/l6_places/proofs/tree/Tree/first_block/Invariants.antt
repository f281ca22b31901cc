use Rattle.std.proofs.Common.{◌≡◌, ℕ, ◌<◌, ◌≤◌, slice_index}
use Rattle.l6_places.proofs.tree.Tree.first_block.Given as goal

abbrev pub invariant-loop-place : goal.invariant-loop-place
invariant-loop-place l =
    (at : ℕ) → l.from ≤ at → at < l.place → slice_index l.self.marks.items at ≡ 0
