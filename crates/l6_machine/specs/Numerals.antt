-- What a user has who chooses nothing.
use Rattle.std.specs.Prelude.{ℕ}

-- so many units, steps, and bytes of output
abbrev pub default_units : ℕ
default_units = 8

abbrev pub default_steps : ℕ
default_steps = 1000000

abbrev pub default_output : ℕ
default_output = 1048576
