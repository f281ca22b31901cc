-- Numbers: decimal, octal, and those that texts stand for.
use Rattle.std.specs.Prelude.{ℕ, ◌+◌, ◌-◌, ◌^◌, ◌&&◌, Bool, nat_lt, nat_le, Option, Some, None, List, [], ◌∷◌, length, if◌then◌else◌}
use Rattle.std.specs.Option.{option_map}
use Rattle.std.specs.Int.Digits.{number_from_digits}
use Rattle.std.specs.Str.{byte}
use Rattle.l6_word.specs.Code.{code_of}
use Rattle.l6_word.specs.Numerals.{word_bits}
use Rattle.l6_word.specs.Numerals.{code_count}
use Rattle.l6_prog.specs.Numerals.{digit_count}
use Rattle.l6_prog.specs.PrintText.{is_print_text}
use Rattle.l6_word.specs.Numerals.{octal_digit_count}
use Rattle.l6_group.specs.Numerals.{most_text_characters}
use Rattle.l6_group.specs.Character.{is_blank}
use Rattle.l6_group.specs.Spelling.{◌>>=◌}

-- what one character is read as, in front of what those after it are
abbrev pub onto_read : Option ℕ → Option (List ℕ) → Option (List ℕ)
onto_read None others = None
onto_read (Some one) others = option_map (λ all. one ∷ all) others

-- what each character of an element is read as, its blanks left out; none where one has no reading
abbrev pub each_read : (ℕ → Option ℕ) → List ℕ → Option (List ℕ)
each_read read [] = Some []
each_read read (first ∷ rest) =
    if is_blank first then each_read read rest else onto_read (read first) (each_read read rest)

-- the digit that a byte is, below the base
abbrev pub digit_of : ℕ → ℕ → Option ℕ
digit_of base given =
    if nat_le (byte "0") given && nat_lt given (byte "0" + base) then Some
    (given - byte "0") else None

-- the digits write a number to the base that a word can hold: there is one, and the number is not
-- too large
abbrev pub is_number : ℕ → List ℕ → Bool
is_number base digits =
    nat_lt 0 (length digits) && nat_lt (number_from_digits base digits) (2 ^ word_bits)

-- the number that digits write to the base
abbrev pub number_from : ℕ → List ℕ → Option ℕ
number_from base digits =
    if is_number base digits then Some (number_from_digits base digits) else None

-- the number that an element writes to the base
abbrev pub number_of : ℕ → List ℕ → Option ℕ
number_of base element = each_read (digit_of base) element >>= number_from base

-- the decimal number that an element writes
abbrev pub decimal_of : List ℕ → Option ℕ
decimal_of element = number_of digit_count element

-- the octal number that an element writes
abbrev pub octal_of : List ℕ → Option ℕ
octal_of element = number_of octal_digit_count element

-- the codes of an element's characters, blanks among them; none where one has no code
abbrev pub codes_of : List ℕ → Option (List ℕ)
codes_of [] = Some []
codes_of (first ∷ rest) = onto_read (code_of first) (codes_of rest)

-- the number that a text of these codes stands for: they are its digits to the base 64
abbrev pub text_from : List ℕ → Option ℕ
text_from codes =
    if nat_le (length codes) most_text_characters then number_from code_count codes else None

-- the number that a text stands for
abbrev pub text_of : List ℕ → Option ℕ
text_of element = codes_of element >>= text_from

-- the printed text of these codes
abbrev pub print_text_from : List ℕ → Option (List ℕ)
print_text_from codes = if is_print_text codes then Some codes else None

-- the printed text that an element is
abbrev pub print_text_of : List ℕ → Option (List ℕ)
print_text_of element = codes_of element >>= print_text_from
