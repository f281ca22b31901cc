-- Detached pieces: what is true while a piece is halved or joined, and of the loops that do it.
use Rattle.std.specs.Prelude.{◌≡◌, ℕ, suc, ◌+◌, ◌-◌, ◌%◌, ◌^◌, ◌<◌, ◌≤◌, length}
use Rattle.l6_word.specs.Numerals.{largest_level, unit_size}
use Rattle.l6_store.specs.Numerals.{most_units}
use Rattle.l6_store.specs.Blocks.{Blocks, LiesIn, IsAlignedPlace, end_of}
use Rattle.l6_store.specs.Rule.{Order}
use Rattle.l6_store.specs.Buddy.{DetachedPiece, IsListed, halved_often, joined_often}
use Rattle.l6_store.specs.Tiles.{holds, held}

-- lists of free pieces, whatever blocks and detached pieces there are
pub record ArePieces (units : ℕ) (order : Order) : Type 0 where
  pub lists : length order ≡ suc largest_level
  pub is_aligned : (level place : ℕ) → IsListed order level place → IsAlignedPlace units level place
  pub whole : (level place : ℕ) → level < largest_level → place % 2 ^ suc level ≡ 0
      → IsListed order level place → IsListed order level (place + 2 ^ level) → ⊥

-- what is counted at each place fills the store: none at the words of blocks, one at all others
pub record Fills (units : ℕ) (blocks : Blocks) (count : ℕ → ℕ) : Type 0 where
  pub apart : (at : ℕ) → LiesIn blocks at → count at ≡ 0
  pub once : (at : ℕ) → unit_size ≤ at → at < end_of units → (LiesIn blocks at → ⊥) → count at ≡ 1

-- the free pieces and the detached piece fill the store
pub record Holding (units : ℕ) (blocks : Blocks) (detached : DetachedPiece) : Type 0 where
  pub pieces : ArePieces units detached.order
  pub is_aligned : IsAlignedPlace units detached.level detached.place
  pub fills : Fills units blocks
      (λ at. held detached.order at + holds at (2 ^ detached.level) detached.place)

-- of a store of no more units than one may have
pub record IsDetached (units : ℕ) (blocks : Blocks) (detached : DetachedPiece) : Type 0 where
  pub most : units ≤ most_units
  pub holds : Holding units blocks detached

-- while a piece is halved: it was halved this often so far, and the rest of the halvings lead
-- where all of them led
pub record HalvesPiece (units : ℕ) (blocks : Blocks) (level from : ℕ) (first now : DetachedPiece)
    (moves : ℕ) : Type 0 where
  pub enough : level ≤ now.level
  pub counted : moves + now.level ≡ from
  pub is_detached : IsDetached units blocks now
  pub comes : halved_often (now.level - level) now ≡ halved_often (from - level) first

-- while a piece is joined
pub record JoinsPiece (units : ℕ) (blocks : Blocks) (level : ℕ) (first now : DetachedPiece)
    (moves : ℕ) : Type 0 where
  pub counted : moves + level ≡ now.level
  pub is_detached : IsDetached units blocks now
  pub comes : joined_often (largest_level - now.level) now ≡ joined_often (largest_level - level) first
