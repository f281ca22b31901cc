-- Blocks that are in the way of another: those that cover its first place, and those that begin inside.
use Rattle.std.specs.Prelude.{◌≡◌, ℕ, ◌+◌, ◌^◌, ◌<◌, ◌≤◌, Option, Some, None, slice_index}
use Rattle.l6_places.specs.Board.{Board, Begins}
use Rattle.l6_places.specs.Hindrance.{Shares}

-- a block that is in the way, or none if none is
abbrev pub IsInTheWay : Board → ℕ → ℕ → Option ℕ → Type 0
IsInTheWay b size place (Some other) = Shares b size place other
IsInTheWay b size place None = (other : ℕ) → Shares b size place other → ⊥

-- a block of a level or a larger one has a place
pub record Covers (b : Board) (level place start : ℕ) : Type 0 where
  pub upper : ℕ
  pub begins : Begins b.marks start upper
  pub larger : level ≤ upper
  pub from : start ≤ place
  pub under : place < start + 2 ^ upper

abbrev pub IsCover : Board → ℕ → ℕ → Option ℕ → Type 0
IsCover b level place (Some start) = Covers b level place start
IsCover b level place None = (start : ℕ) → Covers b level place start → ⊥

-- the first block that begins from one place on and before another
pub record BeginsFirst (b : Board) (from to place : ℕ) : Type 0 where
  pub level : ℕ
  pub begins : Begins b.marks place level
  pub low : from ≤ place
  pub high : place < to
  pub before : (at : ℕ) → from ≤ at → at < place → slice_index b.marks at ≡ 0

abbrev pub IsFirstBlock : Board → ℕ → ℕ → Option ℕ → Type 0
IsFirstBlock b from to (Some place) = BeginsFirst b from to place
IsFirstBlock b from to None = (at : ℕ) → from ≤ at → at < to → slice_index b.marks at ≡ 0
