-- The numbers of the debugger.
use Rattle.std.specs.Prelude.{ℕ}

-- the greatest number that a command may give
abbrev pub most_number : ℕ
most_number = 1000000000

-- in how many places the number of a word is
abbrev pub index_places : ℕ
index_places = 4
