-- Blocks: lists of words that are in a store, each from a place of its own on.
use Rattle.std.specs.Prelude.{◌≡◌, ℕ, ◌+◌, ◌-◌, ◌*◌, ◌%◌, ◌^◌, ◌<◌, ◌≤◌, List, [], length, slice_index, Some, unwrap_or, IsSome}
use Rattle.std.specs.List.{All}
use Rattle.std.specs.Ordering.{nat_cmp}
use Rattle.std.specs.Coded.{Coded, coded_ℕ, coded_list}
use Rattle.std.specs.FinMap as map
use Rattle.l6_word.specs.Numerals.{word_bits, largest_level, unit_size}

-- from the first place of each block to its words
abbrev pub Blocks : Type 0
Blocks = map.FinMap {K = ℕ} nat_cmp (List ℕ)

abbrev pub blocks_code : Coded Blocks
blocks_code = map.code coded_ℕ (coded_list coded_ℕ)

-- the place after a store of so many units. The first unit begins at the place unit_size: place 0
-- is no block.
abbrev pub end_of : ℕ → ℕ
end_of units = unit_size * units + unit_size

-- a block of a level may be at a place: it has 2^level words, begins at a multiple of that, and
-- lies in the store
pub record IsAlignedPlace (units level place : ℕ) : Type 0 where
  pub small : level ≤ largest_level
  pub aligned : place % 2 ^ level ≡ 0
  pub above : unit_size ≤ place
  pub within : place + 2 ^ level ≤ end_of units

-- these words are a block of a store, at that place
pub record IsBlock (units place : ℕ) (words : List ℕ) : Type 0 where
  pub level : ℕ
  pub size : length words ≡ 2 ^ level
  pub is_aligned : IsAlignedPlace units level place
  pub are_words : All (λ word. word < 2 ^ word_bits) words

-- the blocks of a store: each is one, and no two share a word
pub record Fits (units : ℕ) (blocks : Blocks) : Type 0 where
  pub each : (place : ℕ) (words : List ℕ) → map.get blocks place ≡ Some words
      → IsBlock units place words
  pub apart : (one other : ℕ) (words others : List ℕ) → map.get blocks one ≡ Some words
      → map.get blocks other ≡ Some others
      → one < other → one + length words ≤ other

-- a block begins at a place
abbrev pub IsLive : Blocks → ℕ → Type 0
IsLive blocks place = IsSome (map.get blocks place)

-- the words of the block that begins at a place
abbrev pub block_at : Blocks → ℕ → List ℕ
block_at blocks place = unwrap_or (map.get blocks place) []

-- a place lies in a block: in which one, and with which words
pub record LiesIn (blocks : Blocks) (place : ℕ) : Type 0 where
  pub start : ℕ
  pub words : List ℕ
  pub is : map.get blocks start ≡ Some words
  pub from : start ≤ place
  pub below : place < start + length words

-- where the place is among the words of its block, and its word
abbrev pub index_in : {blocks : Blocks} (place : ℕ) → LiesIn blocks place → ℕ
index_in place found = place - found.start

abbrev pub word_at : {blocks : Blocks} (place : ℕ) → LiesIn blocks place → ℕ
word_at place found = slice_index found.words (index_in place found)
