-- What depends on the version of the format: its magic word, how many statements a program may
-- have, and how the last 18 bits of a row's first word give a label.
use Rattle.std.specs.Prelude.{ℕ, ◌+◌, ◌^◌, Option, Some, None}
use Rattle.l6_image.specs.declared.version.Version.{Version}
use Rattle.l6_image.specs.declared.version.Version.TheVariants.{One, Two}

-- the first word of an image, which is the text L6IMG1 or L6IMG2
abbrev pub magic : Version → ℕ
magic One = 0o542651554721
magic Two = 0o542651554722

-- how many statements a program may have
abbrev pub most_in : Version → ℕ
most_in One = 4095
most_in Two = 65535

-- the number that stands for the label of a row. In the first version a bit says that there is one,
-- and 12 bits after it are the statement; in the second it is the number after the statement's. It
-- is 0 where there is none
abbrev pub label_number : Version → Option ℕ → ℕ
label_number version None = 0
label_number One (Some label) = 2 ^ 12 + label
label_number Two (Some label) = label + 1
