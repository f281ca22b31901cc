-- That a board says of places what a store says of its words.
use Rattle.std.specs.Prelude.{◌≡◌, ◌↔◌, ℕ, ◌^◌, List, length, Some}
use Rattle.std.specs.FinMap as map
use Rattle.l6_word.specs.Numerals.{unit_size}
use Rattle.l6_store.specs.Blocks.{Blocks, end_of}
use Rattle.l6_store.specs.Numerals.{place_bits}
use Rattle.l6_store.specs.Open as store
use Rattle.l6_places.specs.Board.{Board, Begins, places_in}
use Rattle.l6_places.specs.Board as board

-- the marks are those of the blocks: each block begins where a mark of its level is, and each mark is where a
-- block of its level begins
pub record AreMarks (blocks : Blocks) (marks : List ℕ) : Type 0 where
  pub marked : (start : ℕ) (words : List ℕ) → map.get blocks start ≡ Some words
      → (level : ℕ) × (Begins marks start level) × (length words ≡ 2 ^ level)
  pub begun : (start level : ℕ) → Begins marks start level
      → (words : List ℕ) × (map.get blocks start ≡ Some words) × (length words ≡ 2 ^ level)

-- the board of a store of so many units, with these marks; there were never more places in blocks
abbrev pub store_board : ℕ → List ℕ → Board
store_board units marks = record {
  top = place_bits;
  first = unit_size;
  end = end_of units;
  marks = marks;
  most = places_in marks;
}

-- a place is open in a store exactly if it is on the board of its blocks
abbrev pub SameOpen : Type 0
SameOpen =
    (units : ℕ) (blocks : Blocks) (marks : List ℕ) (size place : ℕ) → AreMarks blocks marks →
    (store.IsOpen units blocks size place) ↔ (board.IsOpen (store_board units marks) size place)
