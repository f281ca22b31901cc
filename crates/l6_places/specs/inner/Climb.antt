-- A way up the tree past no block.
use Rattle.std.specs.Prelude.{ℕ, ◌+◌, ◌^◌, ◌<◌, ◌≤◌, List}
use Rattle.l6_places.specs.Board.{Board, Begins}
use Rattle.l6_places.specs.inner.Tree.{Node, start_of}

pub record Climbs (b : Board) (tree : List ℕ) (level place now node : ℕ) : Type 0 where
  pub is_node : Node b.top now node
  pub least : level ≤ now
  pub from : start_of b.top now node ≤ place
  pub under : place < start_of b.top now node + 2 ^ now
  pub clear : (at upper : ℕ) → Begins b.marks at upper → level < upper → upper ≤ now
      → at ≤ place → place < at + 2 ^ upper → ⊥
