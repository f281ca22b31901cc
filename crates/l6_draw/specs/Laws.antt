-- The laws of what is reached, and of the map of a store.
use Rattle.std.specs.Prelude.{◌≡◌, ◌<◌, ◌≤◌, ◌+◌, ◌-◌, ◌⊎◌, true, List, [], ◌∷◌, ℕ, ◌↔◌}
use Rattle.std.specs.Bool.{MatchBool}
use Rattle.std.specs.List.{AllByRecursion}
use Rattle.l6_word.specs.Numerals.{unit_size}
use Rattle.l6_store.specs.Blocks.{Blocks, Fits, IsLive, LiesIn, end_of}
use Rattle.l6_steps.specs.State.{Memory}
use Rattle.l6_draw.specs.Reach.{AreReachable, IsReachable, is_reached, reached_places}
use Rattle.l6_draw.specs.StoreMap.{Stretch, size_at, stretches}

-- the test is true exactly if a path ends at the place
abbrev pub ReachIsDecided : Type 0
ReachIsDecided =
    (memory : Memory) (place : ℕ) → (is_reached memory place ≡ true) ↔ IsReachable memory place

-- the places that are reached are a rising list, and no other list is
abbrev pub ReachIsSettled : Type 0
ReachIsSettled =
    (memory : Memory) → AreReachable memory (reached_places memory)
    × ((others : List ℕ) → AreReachable memory others → others ≡ reached_places memory)

-- words of a store that lie in no block and are a longest run of such: before them the store begins or
-- a word of a block is, and after them it ends or a block begins
pub record IsFreeRun (units : ℕ) (blocks : Blocks) (from size : ℕ) : Type 0 where
  pub free : (place : ℕ) → from ≤ place → place < from + size → LiesIn blocks place → ⊥
  pub begins : (from ≡ unit_size) ⊎ LiesIn blocks (from - 1)
  pub ends : (from + size ≡ end_of units) ⊎ IsLive blocks (from + size)

-- a stretch is a whole block, or a longest run of free words, if it has any
abbrev pub IsWhole : ℕ → Memory → Stretch → Type 0
IsWhole units memory stretch =
    MatchBool stretch.is_block
    (IsLive memory.blocks stretch.from × (stretch.size ≡ size_at memory stretch.from))
    (0 < stretch.size → IsFreeRun units memory.blocks stretch.from stretch.size)

-- each stretch begins where the one before it ends, from one place up to another
abbrev pub AreSideBySide : ℕ → ℕ → List Stretch → Type 0
AreSideBySide place end [] = place ≡ end
AreSideBySide place end (stretch ∷ others) =
    (stretch.from ≡ place) × AreSideBySide (place + stretch.size) end others

-- where blocks fit a store, the stretches of its map are whole, and lie side by side from its first
-- place to its end
abbrev pub MapIsWhole : Type 0
MapIsWhole =
    (units : ℕ) (memory : Memory) → Fits units memory.blocks →
    AllByRecursion (IsWhole units memory) (stretches units memory)
    × AreSideBySide unit_size (end_of units) (stretches units memory)
