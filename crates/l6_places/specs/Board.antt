-- A board: the places that an allocator has, and the blocks that are at them. What the places hold plays no
-- part.
use Rattle.std.specs.Coded.{Coded, code_by, coded×, coded_ℕ, coded_list}
use Rattle.std.specs.Prelude.{refl, zero, max, replicate, slice_set, ◌≡◌, ℕ, suc, ◌+◌, ◌-◌, ◌*◌, ◌/◌, ◌%◌, ◌^◌, ◌<◌, ◌≤◌, List, [], ◌∷◌, slice_index, Option, Some, None, IsSome}
use Rattle.l6_places.specs.declared.board.Piece.{Piece}

-- the places from the first one up to the end are given out, and no block has more than 2^top of them
pub record Board : Type 0 where
  pub top : ℕ
  pub first : ℕ
  pub end : ℕ
  -- for each place 0 if no block begins there, and one more than its level if one does
  pub marks : List ℕ
  -- the most places that its blocks had at once, since there were none
  pub most : ℕ

abbrev pub board_code : Coded Board
board_code =
    code_by (ℕ × (ℕ × (ℕ × (List ℕ × ℕ))))
    (coded× coded_ℕ (coded× coded_ℕ (coded× coded_ℕ (coded× (coded_list coded_ℕ) coded_ℕ))))
    (λ b. (b.top, (b.first, (b.end, (b.marks, b.most)))))
    (λ p. record { top = p.0; first = p.1.0; end = p.1.1.0; marks = p.1.1.1.0; most = p.1.1.1.1 })
    (λ _. refl)

-- a block of a level begins at a place
abbrev pub Begins : List ℕ → ℕ → ℕ → Type 0
Begins marks place level = slice_index marks place ≡ suc level

-- a block of a level may be at a place: it has 2^level places, begins at a multiple of that, and lies
-- between the first place and the end
pub record IsAligned (b : Board) (level place : ℕ) : Type 0 where
  pub small : level ≤ b.top
  pub aligned : place % 2 ^ level ≡ 0
  pub above : b.first ≤ place
  pub within : place + 2 ^ level ≤ b.end

-- each block is where it may be, and no two share a place
pub record Fits (b : Board) : Type 0 where
  pub each : (place level : ℕ) → Begins b.marks place level → IsAligned b level place
  pub apart : (one other level other_level : ℕ) → Begins b.marks one level
      → Begins b.marks other other_level → one < other → one + 2 ^ level ≤ other

-- so many places from one on are open: it is a multiple of their number, they are given out, and none of
-- them lies in a block
pub record IsOpen (b : Board) (size place : ℕ) : Type 0 where
  pub aligned : place % size ≡ 0
  pub above : b.first ≤ place
  pub within : place + size ≤ b.end
  pub free : (start level at : ℕ) → Begins b.marks start level
      → place ≤ at → at < place + size → start ≤ at → start + 2 ^ level ≤ at

-- an answer to a request for so many places: the lowest open place, or none if none is open
abbrev pub IsLowest : Board → ℕ → Option ℕ → Type 0
IsLowest b size (Some place) =
    IsOpen b size place × ((lower : ℕ) → lower < place → IsOpen b size lower → ⊥)
IsLowest b size None = (place : ℕ) → IsOpen b size place → ⊥

-- how many places the block has that a mark tells of, and how many all blocks have together
abbrev pub places_of : ℕ → ℕ
places_of zero = 0
places_of (suc level) = 2 ^ level

abbrev pub places_in : List ℕ → ℕ
places_in [] = 0
places_in (mark ∷ marks) = places_of mark + places_in marks

-- the board with other blocks: there may be more places in blocks than ever before
abbrev pub with_marks : Board → List ℕ → Board
with_marks b marks = record b { marks = marks; most = max b.most (places_in marks) }

-- the board with a block of a level at a place, and without the block at a place
abbrev pub taken : Board → ℕ → ℕ → Board
taken b level place = with_marks b (slice_set b.marks place (suc level))

abbrev pub released : Board → ℕ → Board
released b place = record b { marks = slice_set b.marks place 0 }

-- a board without blocks
abbrev pub fresh : ℕ → ℕ → ℕ → Board
fresh top first end =
    record { top = top; first = first; end = end; marks = replicate (2 ^ top) 0; most = 0 }

-- the same board without its blocks
abbrev pub emptied : Board → Board
emptied b = fresh b.top b.first b.end

-- the board after a get that had this answer
abbrev pub after_get : Board → ℕ → Option ℕ → Board
after_get b level (Some place) = taken b level place
after_get b level None = b

-- the level of the block that a mark tells of, if it tells of one
abbrev pub level_of : ℕ → Option ℕ
level_of zero = None
level_of (suc level) = Some level

-- the level of the block that begins at a place, if one does
abbrev pub level_at : Board → ℕ → Option ℕ
level_at b place = level_of (slice_index b.marks place)

-- the first place from one on at which a block begins, or none if none begins there or behind
abbrev pub IsNextBlock : Board → ℕ → Option ℕ → Type 0
IsNextBlock b from (Some place) =
    (from ≤ place) × IsSome (level_at b place)
    × ((at : ℕ) → from ≤ at → at < place → level_at b at ≡ None)
IsNextBlock b from None = (at : ℕ) → from ≤ at → level_at b at ≡ None

-- the largest open piece, or none if no place is open
abbrev pub IsLargest : Board → Option Piece → Type 0
IsLargest b (Some piece) =
    IsOpen b (2 ^ piece.level) piece.place
    × ((level place : ℕ) → piece.level < level → level ≤ b.top → IsOpen b (2 ^ level) place → ⊥)
IsLargest b None = (place : ℕ) → IsOpen b 1 place → ⊥

-- where the aligned piece of a level that has a place begins
abbrev pub piece_start : ℕ → ℕ → ℕ
piece_start level place = place / 2 ^ level * 2 ^ level

-- the largest level, up to a limit, of an open piece that has a place; or none if the place is not open
abbrev pub IsOpenLevel : Board → ℕ → ℕ → Option ℕ → Type 0
IsOpenLevel b limit place (Some level) =
    (level ≤ limit) × IsOpen b (2 ^ level) (piece_start level place)
    × ((upper : ℕ) → level < upper → upper ≤ limit
    → IsOpen b (2 ^ upper) (piece_start upper place) → ⊥)
IsOpenLevel b limit place None =
    (level : ℕ) → level ≤ limit → IsOpen b (2 ^ level) (piece_start level place) → ⊥

-- how many of the places that are given out lie in no block
abbrev pub free_places : Board → ℕ
free_places b = b.end - b.first - places_in b.marks
