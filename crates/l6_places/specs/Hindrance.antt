-- What is in the way of a block.
use Rattle.std.specs.Prelude.{◌≡◌, ℕ, ◌+◌, ◌%◌, ◌⊎◌, ◌^◌, ◌<◌}
use Rattle.l6_places.specs.Board.{Board, Begins}
use Rattle.l6_places.specs.declared.board.Hindrance.{Hindrance}
use Rattle.l6_places.specs.declared.board.Hindrance.TheVariants.{Misaligned, Outside, Overlaps}

-- the block that begins at a place shares one with so many places from another one on
pub record Shares (b : Board) (size place other : ℕ) : Type 0 where
  pub level : ℕ
  pub begins : Begins b.marks other level
  pub before : other < place + size
  pub behind : place < other + 2 ^ level

-- why a block of a level may not be at a place: the place is no multiple of its size, or it would begin
-- before the first place or end after the last, or a block is there
abbrev pub Hinders : Board → ℕ → ℕ → Hindrance → Type 0
Hinders b level place Misaligned = place % 2 ^ level ≡ 0 → ⊥
Hinders b level place Outside = (place < b.first) ⊎ (b.end < place + 2 ^ level)
Hinders b level place (Overlaps other) = Shares b (2 ^ level) place other
