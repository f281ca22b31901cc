-- The numbers of boards.
use Rattle.std.specs.Prelude.{ℕ}

-- the largest level that a board may have
abbrev pub largest_top : ℕ
largest_top = 24
