-- Words as octal digits.
use Rattle.std.specs.Prelude.{◌≡◌, ℕ, zero, suc, ◌+◌, ◌/◌, ◌%◌, ◌^◌, ◌<◌, ◌==◌, List, [], ◌∷◌, ◌++◌, length, Bool, true, ◌&&◌}
use Rattle.std.specs.Int.{is_in_range}
use Rattle.std.specs.List.{list_all}
use Rattle.std.specs.Str.{byte}
use Rattle.std.specs.Str.Parse.{digits_value}
use Rattle.l6_word.specs.Numerals.{octal_digit_count, word_bits, word_octals}

-- the last octal digits of a number, so many of them, as text
abbrev pub octal_digits : ℕ → ℕ → List ℕ
octal_digits zero number = []
octal_digits (suc more) number =
    octal_digits more (number / octal_digit_count) ++ (byte "0" + number % octal_digit_count) ∷ []

-- the digits of a word, also those that are 0
unfoldable pub octal12 : ℕ → List ℕ
octal12 word = octal_digits word_octals word

-- the byte is an octal digit
abbrev pub is_octal_digit : ℕ → Bool
is_octal_digit given = is_in_range (byte "0") (byte "7") given

-- the text is as many octal digits as a word is written with
abbrev pub is_octal12 : List ℕ → Bool
is_octal12 text = length text == word_octals && list_all is_octal_digit text

-- a word's digits are such a text, and determine the word
abbrev pub OctalsAreReadAgain : Type 0
OctalsAreReadAgain =
    (word : ℕ) → word < 2 ^ word_bits →
    (is_octal12 (octal12 word) ≡ true) × (digits_value octal_digit_count (octal12 word) ≡ word)
