-- The tree above a board. A node of a level stands for 2^level places; node 1 stands for all, and below
-- node n are 2n and 2n+1. Its value is 0 if no place below it is open, and otherwise one more than the
-- largest level of an open block below it. At a block it is 0.
use Rattle.std.specs.Prelude.{◌≡◌, ℕ, zero, suc, nat_le, nat_lt, ◌+◌, ◌-◌, ◌*◌, ◌%◌, ◌^◌, ◌<◌, ◌≤◌, max, ◌&&◌, ◌==◌, List, length, slice_index, if◌then◌else◌}
use Rattle.l6_places.specs.Board.{Board, Fits}

-- a node of a level
pub record Node (top level node : ℕ) : Type 0 where
  pub small : level ≤ top
  pub from : 2 ^ top ≤ node * 2 ^ level
  pub under : node * 2 ^ level < 2 ^ top + 2 ^ top

-- the other node below the same one
abbrev pub buddy_of : ℕ → ℕ
buddy_of node = node + 1 - 2 * (node % 2)

-- the first place that it stands for
abbrev pub start_of : ℕ → ℕ → ℕ → ℕ
start_of top level node = node * 2 ^ level - 2 ^ top

-- the value of a node of a level, from those of its two halves
abbrev pub joined : ℕ → ℕ → ℕ → ℕ
joined level lower upper = if lower == level && upper == level then suc level else max lower upper

-- the value of a leaf: 1 for a place that is given out, 0 for another
abbrev pub leaf_between : ℕ → ℕ → ℕ → ℕ
leaf_between first end place = if nat_le first place && nat_lt place end then 1 else 0

abbrev pub leaf_value : Board → ℕ → ℕ
leaf_value b place = leaf_between b.first b.end place

-- the value that a node has if no block of its level is there
abbrev pub below : Board → List ℕ → ℕ → ℕ → ℕ
below b tree zero node = leaf_value b (start_of b.top 0 node)
below b tree (suc level) node =
    joined (suc level) (slice_index tree (2 * node)) (slice_index tree (2 * node + 1))

-- the value of a node: 0 if it is a block
abbrev pub value_of : Board → List ℕ → ℕ → ℕ → ℕ
value_of b tree level node =
    if slice_index b.marks (start_of b.top level node) == suc level then 0
    else below b tree level node

-- the values of all nodes but one are right
pub record AreRightBut (b : Board) (tree : List ℕ) (hole : ℕ) : Type 0 where
  pub count : length tree ≡ 2 * 2 ^ b.top
  pub each : (level node : ℕ) → Node b.top level node → (node ≡ hole → ⊥)
      → slice_index tree node ≡ value_of b tree level node

-- a tree tells of a board: its blocks are where they may be, and all values are right
pub record IsTold (b : Board) (tree : List ℕ) : Type 0 where
  pub count : length tree ≡ 2 * 2 ^ b.top
  pub marked : length b.marks ≡ 2 ^ b.top
  pub low : b.end ≤ 2 ^ b.top
  pub fits : Fits b
  pub each : (level node : ℕ) → Node b.top level node
      → slice_index tree node ≡ value_of b tree level node

-- each node above the leaves has the value that the two below it give, and the leaves are as before
pub record IsBuilt (top : ℕ) (old new : List ℕ) : Type 0 where
  pub count : length new ≡ length old
  pub leaves : (node : ℕ) → 2 ^ top ≤ node → slice_index new node ≡ slice_index old node
  pub above : (level node : ℕ) → Node top (suc level) node → slice_index new node
      ≡ joined (suc level) (slice_index new (2 * node)) (slice_index new (2 * node + 1))
