-- Octal digits, one by one.
use Rattle.std.proofs.Common.{◌≡◌, ℕ, zero, suc, ◌+◌, ◌*◌, ◌/◌, ◌%◌, ◌^◌, ◌<◌, bit_and, List, [], ◌∷◌, ◌++◌, length, true, length-append, take, ◌≤◌, rules, refl, ap, sym, ◌∙◌, arith}
use Rattle.std.specs.List.{list_all}
use Rattle.std.specs.Str.{byte}
use Rattle.std.specs.Str.Parse.{digits_value}
use Rattle.std.specs.Char.{digit_value}
use Rattle.std.proofs.lemmas.Int.Digits.{digits_value_push}
use Rattle.std.proofs.lemmas.List.Folds.{list_all-append}
use Rattle.std.proofs.lemmas.Nat.{div_below, mod_below, and_block, and_mask}
use Rattle.std.proofs.lemmas.List.{take_all}
use Rattle.std.proofs.lemmas.Str.{digit_value_digit}
use Rattle.std.proofs.Math.Nat.{pow-suc, pow-le-pow_right}
use Rattle.l6_word.specs.Numerals.{word_bits, word_octals}
use Rattle.l6_word.specs.Octal.{octal12, octal_digits, is_octal_digit, OctalsAreReadAgain}

-- a digit has its value
digit_value_octal : (digit : ℕ) → digit < 8 → digit_value (byte "0" + digit) ≡ digit
digit_value_octal digit below = omega (arith, digit_value_digit (byte "0" + digit) (search (arith)))

-- as many digits as a number has tell the number
pub octal_digits_value : (count number : ℕ) → number < 8 ^ count →
    digits_value 8 (octal_digits count number) ≡ number
octal_digits_value zero number fits = omega arith
octal_digits_value (suc count) number fits =
    let below : number / 8 < 8 ^ count =
    div_below number 8 (8 ^ count) (omega arith) (omega (arith, pow-suc 8 count)) in
    let digit = digit_value_octal (number % 8) (mod_below number 8 (omega arith)) in
    digits_value_push 8 (octal_digits count (number / 8)) (byte "0" + number % 8)
    ∙ omega (arith, octal_digits_value count (number / 8) below, digit)

-- the digits of a word tell it
pub octal12_value : (word : ℕ) → word < 2 ^ word_bits → digits_value 8 (octal12 word) ≡ word
unfolding octal12
octal12_value word fits = octal_digits_value word_octals word fits

-- a word is written as its first eight digits and its last four
pub octal12_parts : (word : ℕ) →
    octal_digits 8 (word / 4096) ++ octal_digits 4 (word % 4096) ≡ octal12 word
unfolding octal12
octal12_parts word =
    let first : word / 4096 ≡ word / 8 / 8 / 8 / 8 = omega arith in
    let one : word % 4096 / 8 / 8 / 8 % 8 ≡ word / 8 / 8 / 8 % 8 = omega arith in
    let two : word % 4096 / 8 / 8 % 8 ≡ word / 8 / 8 % 8 = omega arith in
    let three : word % 4096 / 8 % 8 ≡ word / 8 % 8 = omega arith in
    let four : word % 4096 % 8 ≡ word % 8 = omega arith in
    rw (first, one, two, three, four) refl

-- digits that are two and two are parted by a mask
pub parted : (number : ℕ) → number < 4096 →
    number + number / 64 * 65472 + bit_and ((number + number / 64 * 65472) / 8) 458759 * 248
    ≡ (number / 512 * 256 + number / 64 % 8) * 65536 + number / 8 % 8 * 256 + number % 8
parted number fits =
    let low : ℕ = number / 64 % 8 * 8192 + number % 64 / 8 in
    let pairs : (number + number / 64 * 65472) / 8 ≡ number / 512 * 2 ^ 16 + low = omega arith in
    let halves : bit_and (number / 512 * 2 ^ 16 + low) (7 * 2 ^ 16 + 7)
    ≡ bit_and (number / 512) 7 * 2 ^ 16 + bit_and low 7
    = and_block 16 (number / 512) 7 low 7 (omega arith) (omega arith) in
    let masked : bit_and ((number + number / 64 * 65472) / 8) 458759
    ≡ bit_and (number / 512) 7 * 2 ^ 16 + bit_and low 7
    = ap (λ (n : ℕ). bit_and n 458759) pairs ∙ halves in
    let high : bit_and (number / 512) 7 ≡ number / 512 % 8 = and_mask (number / 512) 3 in
    let last : bit_and low 7 ≡ low % 8 = and_mask low 3 in
    omega (arith, masked, high, last)

-- each digit is one
octal_digit_is : (digit : ℕ) → digit < 8 → is_octal_digit (byte "0" + digit) ≡ true
octal_digit_is digit below = search (rules, arith)

octal_digits_are : (count number : ℕ) →
    list_all is_octal_digit (octal_digits count number) ≡ true
octal_digits_are zero number = refl
octal_digits_are (suc count) number =
    list_all-append is_octal_digit (octal_digits count (number / 8)) ((byte "0" + number % 8) ∷ [])
    ∙ rw (
      octal_digits_are count (number / 8),
      octal_digit_is (number % 8) (mod_below number 8 (omega arith)),
    ) refl

octal_digits_length : (count number : ℕ) → length (octal_digits count number) ≡ count
octal_digits_length zero number = refl
octal_digits_length (suc count) number =
    length-append (octal_digits count (number / 8)) ((byte "0" + number % 8) ∷ [])
    ∙ omega (arith, octal_digits_length count (number / 8))

-- the digits of a word are read as that word
pub octals_are_read_again : OctalsAreReadAgain
unfolding octal12
octals_are_read_again word fits =
    let whole = octal_digits_length word_octals word in
    (rw (octal_digits_are word_octals word) refl, octal_digits_value word_octals word fits)

-- where so many digits are not too many, their number fits
pub few_digits : (index number : ℕ) → index ≤ word_octals → number < 8 ^ index →
    number < 2 ^ word_bits
few_digits index number few fits =
    omega (arith, fits, pow-le-pow_right {n = 8} (omega arith) few)

-- all bytes that are digits are those of their number
pub read_whole : (index number word : ℕ) (text : List ℕ) → length text ≡ word_octals →
    length text ≤ index → index ≤ length text →
    take index text ≡ octal_digits index number → word ≡ number → text ≡ octal12 word
unfolding octal12
read_whole index number word text whole after within is same =
    let at : index ≡ word_octals = omega arith in
    sym (take_all index text after) ∙ is
    ∙ ap (λ (n : ℕ). octal_digits n number) at ∙ ap (octal_digits word_octals) (sym same)
