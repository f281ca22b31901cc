-- A way down the tree to the lowest open place.
use Rattle.std.specs.Prelude.{ℕ, suc, ◌+◌, ◌^◌, ◌<◌, ◌≤◌, List, slice_index}
use Rattle.l6_places.specs.Board.{Board, Begins, IsOpen}
use Rattle.l6_places.specs.inner.Tree.{Node, start_of}

-- no block of a larger level has the place at which a node begins
abbrev pub IsUncovered : Board → ℕ → ℕ → Type 0
IsUncovered b level node =
    (place upper : ℕ) → Begins b.marks place upper → level < upper
    → place ≤ start_of b.top level node → start_of b.top level node < place + 2 ^ upper → ⊥

-- below this node, of the level reached, is the lowest open place
pub record Descends (b : Board) (tree : List ℕ) (wanted level node : ℕ) : Type 0 where
  pub is_node : Node b.top level node
  pub least : wanted ≤ level
  pub has : suc wanted ≤ slice_index tree node
  pub uncovered : IsUncovered b level node
  pub before : (place : ℕ) → place < start_of b.top level node → IsOpen b (2 ^ wanted) place → ⊥
