-- The characters of an element.
use Rattle.std.specs.Prelude.{ℕ, ◌+◌, ◌-◌, ◌||◌, not, Bool, List, map, filter, Option, Some, None, if◌then◌else◌}
use Rattle.std.specs.Int.{is_in_range}
use Rattle.std.specs.Str.{byte}
use Rattle.l6_word.specs.Code.{character_of}
pub use Rattle.l6_word.specs.Code.{is_blank}
use Rattle.l6_prog.specs.Numerals.{first_letter}

-- the character is a capital letter
abbrev pub is_capital : ℕ → Bool
is_capital character = is_in_range (byte "A") (byte "Z") character

-- the character is a capital letter or a digit
abbrev pub is_alphanumeric : ℕ → Bool
is_alphanumeric character = is_capital character || is_in_range (byte "0") (byte "9") character

-- the byte is read as a letter
abbrev pub is_letter : ℕ → Bool
is_letter given = is_capital (character_of given)

-- the byte is read as a letter or a digit
abbrev pub is_letter_or_digit : ℕ → Bool
is_letter_or_digit given = is_alphanumeric (character_of given)

-- the name that a character spells: a digit or a letter
abbrev pub name_from : ℕ → Option ℕ
name_from character =
    if is_in_range (byte "0") (byte "9") character then Some (character - byte "0")
    else if is_in_range (byte "A") (byte "Z") character then Some
    (character - byte "A" + first_letter)
    else None

-- the name that a byte is read as
abbrev pub name_of : ℕ → Option ℕ
name_of given = name_from (character_of given)

-- the characters of an element, its blanks left out
abbrev pub spelled : List ℕ → List ℕ
spelled element = map character_of (filter (λ given. not (is_blank given)) element)
