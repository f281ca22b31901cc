-- What each call that may be refused answers of a board.
use Rattle.std.specs.Prelude.{◌≡◌, ℕ, ◌^◌, ◌<◌, ◌≤◌, Option, Some, None, Result, Ok, Err}
use Rattle.l6_places.specs.Numerals.{largest_top}
use Rattle.l6_places.specs.Board.{Board, IsLargest, IsLowest, IsNextBlock, IsOpen, IsOpenLevel, free_places, level_at}
use Rattle.l6_places.specs.declared.board.Piece.{Piece}
use Rattle.l6_offset_c.specs.declared.fault.CallFault.{CallFault}
use Rattle.l6_offset_c.specs.declared.fault.CallFault.TheVariants.{BadLevel, NoBlock, NotOpen, Full}

-- a place, or a fault where there is none
abbrev pub place_or : CallFault → Option ℕ → Result ℕ CallFault
place_or fault (Some place) = Ok place
place_or fault None = Err fault

-- the lowest open place of a level, or Full if none is open; BadLevel exactly for a level that no block has
pub record IsFound (board : Board) (level : ℕ) (outcome : Result ℕ CallFault) : Type 0 where
  pub bad : board.top < level → outcome ≡ Err BadLevel
  pub good : level ≤ board.top
      → (place : Option ℕ) × IsLowest board (2 ^ level) place × (outcome ≡ place_or Full place)

-- a block is put at a place if it is open, and else NotOpen
pub record IsReserved (board : Board) (level place : ℕ) (outcome : Result ℕ CallFault) : Type 0 where
  pub bad : board.top < level → outcome ≡ Err BadLevel
  pub is_open : level ≤ board.top → IsOpen board (2 ^ level) place → outcome ≡ Ok 0
  pub refused : level ≤ board.top → (IsOpen board (2 ^ level) place → ⊥) → outcome ≡ Err NotOpen

-- whether a block is freed, if one begins at the place
abbrev pub free_outcome : Option ℕ → Result ℕ CallFault
free_outcome None = Err NoBlock
free_outcome (Some level) = Ok 0

abbrev pub IsFreed : ℕ → Board → Result ℕ CallFault → Type 0
IsFreed place board outcome = outcome ≡ free_outcome (level_at board place)

-- the level of the block that begins at a place
abbrev pub IsLevel : ℕ → Board → Result ℕ CallFault → Type 0
IsLevel place board outcome = outcome ≡ place_or NoBlock (level_at board place)

-- the first place from one on at which a block begins
abbrev pub IsNext : ℕ → Board → Result ℕ CallFault → Type 0
IsNext from board outcome =
    (place : Option ℕ) × IsNextBlock board from place × (outcome ≡ place_or NoBlock place)

-- the level of the largest open piece
abbrev pub largest_outcome : Option Piece → Result ℕ CallFault
largest_outcome None = Err Full
largest_outcome (Some piece) = Ok piece.level

abbrev pub IsLargestLevel : Board → Result ℕ CallFault → Type 0
IsLargestLevel board outcome =
    (piece : Option Piece) × IsLargest board piece × (outcome ≡ largest_outcome piece)

-- how many places lie in no block
abbrev pub IsFreePlaces : Board → Result ℕ CallFault → Type 0
IsFreePlaces board outcome = outcome ≡ Ok (free_places board)

-- the most places that blocks had at once
abbrev pub IsMost : Board → Result ℕ CallFault → Type 0
IsMost board outcome = outcome ≡ Ok board.most

-- the level of the largest open piece that has a place
abbrev pub IsPiece : ℕ → Board → Result ℕ CallFault → Type 0
IsPiece place board outcome =
    (level : Option ℕ) × IsOpenLevel board board.top place level
    × (outcome ≡ place_or NotOpen level)

-- the least level whose blocks have at least so many places
pub record IsLeastLevel (places level : ℕ) : Type 0 where
  pub small : level ≤ largest_top
  pub enough : places ≤ 2 ^ level
  pub least : (lower : ℕ) → lower < level → 2 ^ lower < places
