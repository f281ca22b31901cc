-- The values of the nodes above one that changed.
use Rattle.std.specs.Prelude.{◌≡◌, ℕ, suc, ◌≤◌, ◌^◌, List, length, slice_index, slice_set}
use Rattle.l6_places.specs.Board.{Board, Fits}
use Rattle.l6_places.specs.inner.Tree.{Node, AreRightBut, buddy_of, value_of}
use Rattle.l6_places.specs.inner.Descent.{IsUncovered}

-- all values are right but that of one node, whose value is known, and above which is no block
pub record Settles (b : Board) (tree : List ℕ) (level node value : ℕ) : Type 0 where
  pub marked : length b.marks ≡ 2 ^ b.top
  pub low : b.end ≤ 2 ^ b.top
  pub fits : Fits b
  pub is_node : Node b.top level node
  pub right : AreRightBut b tree node
  pub is : value ≡ value_of b tree level node
  pub uncovered : IsUncovered b level node

-- no value is larger than that of a node that is open as a whole
abbrev pub AreSmall : Board → List ℕ → Type 0
AreSmall b tree = (level node : ℕ) → Node b.top level node → slice_index tree node ≤ suc level

-- the same of a node that is not open as a whole beside another one that is
pub record Spreads (b : Board) (tree : List ℕ) (node value : ℕ) : Type 0 where
  pub level : ℕ
  pub settles : Settles b tree level node value
  pub small : AreSmall b tree
  pub low : value ≤ suc level
  pub part : (node ≡ 1 → ⊥) → value ≡ suc level → slice_index tree (buddy_of node) ≡ suc level → ⊥

-- and of one that is open as a whole
pub record Merges (b : Board) (tree : List ℕ) (level node : ℕ) : Type 0 where
  pub settles : Settles b tree level node (suc level)
  pub small : AreSmall b tree

-- such a node has its value now
pub record Written (b : Board) (tree : List ℕ) (node value : ℕ) : Type 0 where
  pub before : List ℕ
  pub spreads : Spreads b before node value
  pub same : tree ≡ slice_set before node value
