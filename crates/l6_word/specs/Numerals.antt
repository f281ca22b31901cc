-- The numbers of the language that words and windows use.
use Rattle.std.specs.Prelude.{ℕ, ◌^◌}

-- how many bits a word has
abbrev pub word_bits : ℕ
word_bits = 36

-- how many octal digits there are to choose from, 0 to 7
abbrev pub octal_digit_count : ℕ
octal_digit_count = 8

-- how many octal digits a word is written with
abbrev pub word_octals : ℕ
word_octals = 12

-- the level of the largest block: a block of level k has 2^k words
abbrev pub largest_level : ℕ
largest_level = 10

-- how many words the largest block has; the store is made of units of this size
abbrev pub unit_size : ℕ
unit_size = 2 ^ largest_level

-- how many codes of characters there are
abbrev pub code_count : ℕ
code_count = 64

-- how many characters a line of an input has
unfoldable pub input_width : ℕ
input_width = 80
