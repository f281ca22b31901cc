-- The words and the numbers of a line.
use Rattle.std.specs.Prelude.{ℕ, ◌-◌, ◌&&◌, ◌||◌, ◌==◌, Bool, nat_lt, nat_le, Option, Some, None, List, [], ◌∷◌, length, if◌then◌else◌}
use Rattle.std.specs.Option.{option_map, option_and_then}
use Rattle.std.specs.Int.Digits.{number_from_digits}
use Rattle.std.specs.Str.{byte}
use Rattle.l6_trace.specs.Numerals.{most_number, base}

-- a byte that separates words: a blank or a tab
abbrev pub is_blank : ℕ → Bool
is_blank given = given == byte " " || given == 9

-- the digit that a byte is
abbrev pub digit_of : ℕ → Option ℕ
digit_of given =
    if nat_le (byte "0") given && nat_le given (byte "9") then Some (given - byte "0") else None

-- a digit in front of those after it
abbrev pub onto_digits : Option ℕ → Option (List ℕ) → Option (List ℕ)
onto_digits None others = None
onto_digits (Some digit) others = option_map (λ all. digit ∷ all) others

-- the digits that the bytes of a word are; none where one of them is no digit
abbrev pub digits_of : List ℕ → Option (List ℕ)
digits_of [] = Some []
digits_of (first ∷ rest) = onto_digits (digit_of first) (digits_of rest)

-- the number that digits write, if there is a digit and a line may give the number
abbrev pub number_from : List ℕ → Option ℕ
number_from digits =
    if nat_lt 0 (length digits) && nat_le (number_from_digits base digits) most_number then
    Some (number_from_digits base digits) else None

-- the number that a word writes
abbrev pub number_of : List ℕ → Option ℕ
number_of word = option_and_then number_from (digits_of word)
