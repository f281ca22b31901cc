-- The numbers of the language that stores use.
use Rattle.std.specs.Prelude.{ℕ}

-- the most units that a store has
abbrev pub most_units : ℕ
most_units = 255

-- how many bits the number of a place has
abbrev pub place_bits : ℕ
place_bits = 18
