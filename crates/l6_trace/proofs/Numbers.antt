-- Numbers, read digit by digit.
use Rattle.std.proofs.Common.{◌≡◌, ℕ, ◌+◌, ◌*◌, ◌<◌, List, ◌∷◌, length, drop, get_or, None, Some, Option, Bool, arith, ltb, leb, refl, ap, ◌∙◌, drop-cons, add-one}
use Rattle.std.specs.Prelude.{◌&&◌, ◌||◌, nat_lt, nat_le, if◌then◌else◌}
use Rattle.std.specs.Int.Digits.{number_from_digits_after}
use Rattle.std.proofs.lemmas.Int.Digits.{number_after_ge}
use Rattle.std.proofs.lemmas.Bool.{lt-leb, and_right}
use Rattle.l6_trace.specs.Numerals.{most_number, base}
use Rattle.l6_trace.specs.Number.{digit_of, onto_digits, digits_of}

-- the number that digits make after a value, where there is a digit
abbrev pub number_following : ℕ → Bool → List ℕ → Option ℕ
number_following value begun digits =
    let number = number_from_digits_after base value digits in
    if (begun || nat_lt 0 (length digits)) && nat_le number most_number then Some number else None

-- the same, of digits that were read
abbrev pub number_after : ℕ → Bool → Option (List ℕ) → Option ℕ
number_after value begun None = None
number_after value begun (Some digits) = number_following value begun digits

-- with one more digit, a value of as many digits as a line may give makes no number
pub large_number : (value : ℕ) (begun : Bool) (digit : ℕ) (others : Option (List ℕ)) →
    most_number < value * base → number_after value begun (onto_digits (Some digit) others) ≡ None
large_number value begun digit None large = refl
large_number value begun digit (Some digits) large =
    let number = number_from_digits_after base value (digit ∷ digits) in
    let reached = number_after_ge base (value * base + digit) digits (omega arith) in
    let too_large = lt-leb number most_number (omega arith) in
    rw (and_right (begun || ltb 0 (length (digit ∷ digits))) (leb number most_number) too_large) refl

-- the digits of a word from a place on: that of the byte there, and then those after it
pub digits_on : (word : List ℕ) (place digit : ℕ) → place < length word →
    digit_of (get_or word place 0) ≡ Some digit →
    digits_of (drop place word) ≡ onto_digits (Some digit) (digits_of (drop (place + 1) word))
digits_on word place digit within known =
    ap digits_of (drop-cons word place 0 within) ∙ rw (known, add-one) refl
