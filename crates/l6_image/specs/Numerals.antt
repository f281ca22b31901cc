-- The numbers that images use.
use Rattle.std.specs.Prelude.{ℕ, ◌^◌}

-- Takes the place of a name where there is none
abbrev pub no_name : ℕ
no_name = 63

-- how many bytes the text of an image may have
abbrev pub most_bytes : ℕ
most_bytes = 2 ^ 23
