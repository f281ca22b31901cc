-- The codes of characters.
use Rattle.std.specs.Prelude.{ℕ, ◌+◌, ◌-◌, ◌==◌, ◌||◌, Bool, Option, Some, None, unwrap_or, if◌then◌else◌}
use Rattle.std.specs.Int.{is_in_range}
use Rattle.std.specs.Str.{byte}

-- the byte is read as a blank: it is one, or a tab
abbrev pub is_blank : ℕ → Bool
is_blank given = given == byte " " || given == byte "\t"

-- the character that a byte is read as: a tab as a blank, a small letter as its capital, any other
-- byte as itself
abbrev pub character_of : ℕ → ℕ
character_of given =
    if given == byte "\t" then byte " "
    else if is_in_range (byte "a") (byte "z") given then given - byte "a" + byte "A"
    else given

-- a character's code: its ASCII code less that of the blank, for the 64 characters from the blank
-- to the underscore; no other character has one
abbrev pub code_of : ℕ → Option ℕ
code_of given =
    if is_in_range (byte " ") (byte "_") (character_of given)
    then Some (character_of given - byte " ")
    else None

-- the character that has a code
abbrev pub char_of : ℕ → ℕ
char_of code = code + byte " "

-- the code that a byte of an input is read as: where its character has none, that of `?`
abbrev pub input_code : ℕ → ℕ
input_code given = unwrap_or (code_of given) (byte "?" - byte " ")
