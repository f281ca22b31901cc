-- How blocks and free pieces fill a store: each word lies in a block or in just one free piece, and
-- what could be joined is joined.
use Rattle.std.specs.Prelude.{◌≡◌, ℕ, zero, suc, ◌+◌, ◌%◌, ◌^◌, ◌<◌, ◌≤◌, ◌&&◌, nat_le, nat_lt, List, [], ◌∷◌, length, if◌then◌else◌}
use Rattle.l6_word.specs.Numerals.{largest_level, unit_size}
use Rattle.l6_store.specs.Blocks.{Blocks, LiesIn, IsAlignedPlace, end_of}
use Rattle.l6_store.specs.Rule.{Order}
use Rattle.l6_store.specs.Buddy.{listed, IsListed}

-- 1 where a piece of so many words from a place on has the word at a place, 0 where it has not
abbrev pub holds : ℕ → ℕ → ℕ → ℕ
holds at size place = if nat_le place at && nat_lt at (place + size) then 1 else 0

-- how many of these pieces have a word
unfoldable pub held_in : ℕ → ℕ → List ℕ → ℕ
held_in at size [] = 0
held_in at size (place ∷ places) = holds at size place + held_in at size places

-- how many free pieces of the levels below one have a word
unfoldable pub held_below : ℕ → Order → ℕ → ℕ
held_below zero order at = 0
held_below (suc level) order at =
    held_in at (2 ^ level) (listed order level) + held_below level order at

-- how many free pieces have a word
unfoldable pub held : Order → ℕ → ℕ
held order at = held_below (suc largest_level) order at

pub record Tiles (units : ℕ) (blocks : Blocks) (order : Order) : Type 0 where
  -- there is a list for each level
  pub lists : length order ≡ suc largest_level
  -- a free piece is where a block of its level may be
  pub is_aligned : (level place : ℕ) → IsListed order level place → IsAlignedPlace units level place
  -- a word of a block lies in no free piece
  pub apart : (at : ℕ) → LiesIn blocks at → held order at ≡ 0
  -- each other word of the store lies in just one
  pub once : (at : ℕ) → unit_size ≤ at → at < end_of units → (LiesIn blocks at → ⊥)
      → held order at ≡ 1
  -- the two halves of a piece are not both free
  pub whole : (level place : ℕ) → level < largest_level → place % 2 ^ suc level ≡ 0
      → IsListed order level place → IsListed order level (place + 2 ^ level) → ⊥
