-- Numbers, read digit by digit.
use Rattle.std.proofs.Common.{◌≡◌, ℕ, ◌<◌, ◌≤◌, ◌^◌, List, length, None, Some, Option, Bool, arith, ltb, refl}
use Rattle.std.specs.Prelude.{◌&&◌, ◌||◌, nat_lt, if◌then◌else◌}
use Rattle.std.specs.Int.Digits.{number_from_digits, number_from_digits_after}
use Rattle.std.proofs.lemmas.Int.Digits.{number_after_ge}
use Rattle.std.proofs.lemmas.Bool.{le-ltb, and_right}
use Rattle.l6_group.specs.Number.{number_from}
use Rattle.l6_word.specs.Numerals.{word_bits}

-- the number that digits make after a value, where there is a digit
abbrev pub number_following : ℕ → ℕ → Bool → List ℕ → Option ℕ
number_following base value begun digits =
    let number = number_from_digits_after base value digits in
    if (begun || nat_lt 0 (length digits)) && nat_lt number
    (2 ^ word_bits) then Some number else None

-- the same, of digits that were read
abbrev pub number_after : ℕ → ℕ → Bool → Option (List ℕ) → Option ℕ
number_after base value begun None = None
number_after base value begun (Some digits) = number_following base value begun digits

-- what follows a value too large for a word makes no number
pub large_number : (base value : ℕ) (begun : Bool) (others : Option (List ℕ)) →
    0 < base → 2 ^ word_bits ≤ value → number_after base value begun others ≡ None
large_number base value begun None positive large = refl
large_number base value begun (Some digits) positive large =
    let number = number_from_digits_after base value digits in
    let reached = number_after_ge base value digits positive in
    let too_large = le-ltb number (2 ^ word_bits) (omega arith) in
    rw (and_right (begun || ltb 0 (length digits)) (ltb number (2 ^ word_bits)) too_large) refl

-- digits that follow a value too large for a word write no number
pub number_from_large : (base value : ℕ) (digits rest : List ℕ) → 0 < base → 2 ^ word_bits ≤ value →
    number_from_digits_after base value rest ≡ number_from_digits base digits →
    number_from base digits ≡ None
number_from_large base value digits rest positive large same =
    let written = number_from_digits base digits in
    let reached = number_after_ge base value rest positive in
    let too_large = le-ltb written (2 ^ word_bits) (omega arith) in
    rw (and_right (ltb 0 (length digits)) (ltb written (2 ^ word_bits)) too_large) refl
