-- How the lists of free pieces are in the words of a store: the first word of each free piece holds
-- the places before and after it in its list, 0 where there is none, and of each list the head is kept.
use Rattle.std.specs.Prelude.{◌≡◌, ℕ, ◌+◌, ◌*◌, ◌^◌, List, [], ◌∷◌, length, slice_index}
use Rattle.std.specs.List.{slice_range}
use Rattle.l6_store.specs.Numerals.{place_bits}
use Rattle.l6_store.specs.Blocks.{Blocks, IsLive, block_at}
use Rattle.l6_store.specs.Rule.{Order}
use Rattle.l6_store.specs.Buddy.{first_or, listed}

-- the word of a link: the place before in its upper half, the place after in its lower half
abbrev pub link_word : ℕ → ℕ → ℕ
link_word before after = 2 ^ place_bits * before + after

-- the words at these places link them in this order, with one place before the first and one after
-- the last
abbrev pub AreLinked : List ℕ → ℕ → List ℕ → ℕ → Type 0
AreLinked words before [] after = Unit {0}
AreLinked words before (place ∷ places) after =
    (slice_index words place ≡ link_word before (first_or places after))
    × AreLinked words place places after

-- each list is linked, from the head of its level on
pub record Links (words heads : List ℕ) (order : Order) : Type 0 where
  pub count : length heads ≡ length order
  pub begun : (level : ℕ) → slice_index heads level ≡ first_or (listed order level) 0
  pub linked : (level : ℕ) → AreLinked words 0 (listed order level) 0

-- the words of each block are those at its places
abbrev pub AreAtTheirPlaces : List ℕ → Blocks → Type 0
AreAtTheirPlaces words blocks =
    (place : ℕ) → IsLive blocks place →
    block_at blocks place ≡ slice_range words place (place + length (block_at blocks place))
