-- The numbers of the language that programs use.
use Rattle.std.specs.Prelude.{ℕ, ◌+◌}

-- how many digits there are, 0 to 9, and how many letters, A to Z
abbrev pub digit_count : ℕ
digit_count = 10

abbrev pub letter_count : ℕ
letter_count = 26

-- names are numbered from 0: first the digits, and then the letters
abbrev pub name_count : ℕ
name_count = digit_count + letter_count

-- the number of the name A
abbrev pub first_letter : ℕ
first_letter = digit_count

-- how many names a chain may have
abbrev pub most_names : ℕ
most_names = 6

-- how many characters a printed text may have
abbrev pub most_characters : ℕ
most_characters = 60

-- how many statements a program may have, the last one, the plain DONE, among them
abbrev pub most_statements : ℕ
most_statements = 65535

-- how many tests a statement may have
abbrev pub most_tests : ℕ
most_tests = 63

-- how many operations a statement may have
abbrev pub most_operations : ℕ
most_operations = 63
