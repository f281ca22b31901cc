-- The numbers of traces.
use Rattle.std.specs.Prelude.{ℕ, ◌^◌}

-- how many calls a trace may have
abbrev pub most_calls : ℕ
most_calls = 1000000

-- the greatest number that a line may give
abbrev pub most_number : ℕ
most_number = 999999999

-- the base of the numbers that lines give
abbrev pub base : ℕ
base = 10

-- how many bytes a name may have
abbrev pub most_name_bytes : ℕ
most_name_bytes = 64

-- the largest level of a block of an allocator that is judged
abbrev pub largest_pool_level : ℕ
largest_pool_level = 20

-- below which power of two, and so how many, its places are
abbrev pub most_places_level : ℕ
most_places_level = 24

abbrev pub most_places : ℕ
most_places = 2 ^ most_places_level
