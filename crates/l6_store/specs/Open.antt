-- Where a new block may be.
use Rattle.std.specs.Prelude.{◌≡◌, ℕ, ◌+◌, ◌%◌, ◌^◌, ◌<◌, ◌≤◌, List, length, Option, Some, None}
use Rattle.std.specs.FinMap as map
use Rattle.l6_word.specs.Numerals.{largest_level, unit_size}
use Rattle.l6_store.specs.Blocks.{Blocks, end_of}

-- so many words from a place on are open: the place is a multiple of their number, they lie in the
-- store, and none of them lies in a block
pub record IsOpen (units : ℕ) (blocks : Blocks) (size place : ℕ) : Type 0 where
  pub aligned : place % size ≡ 0
  pub above : unit_size ≤ place
  pub within : place + size ≤ end_of units
  pub free : (start : ℕ) (words : List ℕ) (at : ℕ) → map.get blocks start ≡ Some words
      → place ≤ at → at < place + size → start ≤ at → start + length words ≤ at

-- an answer to a request for so many words: an open place, or none if none is open
abbrev pub IsAnswer : ℕ → Blocks → ℕ → Option ℕ → Type 0
IsAnswer units blocks size (Some place) = IsOpen units blocks size place
IsAnswer units blocks size None = (place : ℕ) → IsOpen units blocks size place → ⊥

-- for each level a place or none
abbrev pub Choice : Type 0
Choice = ℕ → Option ℕ

-- a choice answers for the blocks of each level
abbrev pub FitsStore : ℕ → Blocks → Choice → Type 0
FitsStore units blocks choice =
    (level : ℕ) → level ≤ largest_level → IsAnswer units blocks (2 ^ level) (choice level)
