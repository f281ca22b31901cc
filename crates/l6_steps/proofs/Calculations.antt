-- Calculations with 64 bits are right in the lowest bits.
use Rattle.std.proofs.Common.{◌≡◌, ℕ, ◌+◌, ◌-◌, ◌*◌, ◌/◌, ◌%◌, ◌^◌, ◌<◌, ◌≤◌, ap, sym, ◌∙◌, arith}
use Rattle.std.specs.Int.{bit_at, w64}
use Rattle.std.proofs.lemmas.Nat.{div_below, pow-add, pow_pos, shr_split}
use Rattle.std.proofs.lemmas.Nat.Bits.{bit_at_cat_low, bit_at_not}
use Rattle.std.proofs.Math.Nat.{add-mul-mod_self_right, pow-le-pow_right}
use Rattle.std.proofs.Math.Pow.{mod-mod-pow}
use Rattle.l6_word.specs.Numerals.{word_bits}
use Rattle.l6_steps.specs.Calculation.{difference}
use Rattle.l6_steps.specs.Laws.{DifferencesAddUp, TurnsEachBit}

-- a power of two is a multiple of a lesser one
pow_multiple : (more width : ℕ) → width ≤ more → 2 ^ more ≡ 2 ^ (more - width) * 2 ^ width
pow_multiple more width below =
    let apart : more ≡ more - width + width = omega arith in
    ap (λ (n : ℕ). 2 ^ n) apart ∙ pow-add 2 (more - width) width

-- numbers that differ by a multiple
mod_same : (width number other less more : ℕ) →
    number + less * 2 ^ width ≡ other + more * 2 ^ width → number % 2 ^ width ≡ other % 2 ^ width
mod_same width number other less more apart =
    sym (add-mul-mod_self_right number less (2 ^ width))
    ∙ ap (λ (n : ℕ). n % 2 ^ width) apart
    ∙ add-mul-mod_self_right other more (2 ^ width)

-- a number that was cut to 64 bits
pub mod_cut : (width number : ℕ) → width ≤ word_bits →
    number % 2 ^ 64 % 2 ^ width ≡ number % 2 ^ width
mod_cut width number narrow =
    let apart : 64 ≡ 64 - width + width = omega arith in
    ap (λ (n : ℕ). number % 2 ^ n % 2 ^ width) apart ∙ mod-mod-pow number (64 - width) width

-- 2 ^ 64 where the definition has 2 ^ word_bits
pub mod_difference : (width number word : ℕ) → width ≤ word_bits → word < 2 ^ word_bits →
    (number + (2 ^ 64 - word)) % 2 ^ 64 % 2 ^ width ≡ difference number word % 2 ^ width
mod_difference width number word narrow fits =
    let multiple = (2 ^ 28 - 1) * 2 ^ (word_bits - width) in
    mod_cut width (number + (2 ^ 64 - word)) narrow
    ∙ mod_same width (number + (2 ^ 64 - word)) (difference number word) 0 multiple
    (omega (arith, pow_multiple word_bits width narrow))

-- 2 ^ 64 where the definition has 2 ^ width
pub mod_complement : (width word : ℕ) → width ≤ word_bits → word < 2 ^ word_bits →
    (2 ^ 64 - 1 - word) % 2 ^ width ≡ difference (2 ^ width - 1) word % 2 ^ width
mod_complement width word narrow fits =
    let multiple = (2 ^ 28 - 1) * 2 ^ (word_bits - width) in
    mod_same width (2 ^ 64 - 1 - word) (difference (2 ^ width - 1) word) 1 multiple
    (omega (arith, pow_multiple word_bits width narrow, pow_pos width))

-- a shift by the width or more
pub mod_shift : (width number places : ℕ) → width ≤ places →
    0 % 2 ^ width ≡ number * 2 ^ places % 2 ^ width
mod_shift width number places past =
    let product = ap (λ (n : ℕ). number * n) (pow_multiple places width past) in
    mod_same width 0 (number * 2 ^ places) (number * 2 ^ (places - width)) 0
    (omega (arith, product))

-- a shift of all bits of a word
pub word_shift : (word places : ℕ) → word < 2 ^ word_bits → word_bits ≤ places →
    0 ≡ word / 2 ^ places
word_shift word places fits past =
    let within = pow-le-pow_right {n = 2} (omega arith) past in
    omega (arith, div_below word (2 ^ places) 1 (pow_pos places) (omega (arith, within)))

-- a bit within the width is one of the lowest bits
bit_at_lowest : (width number place : ℕ) → place < width →
    bit_at (number % 2 ^ width) place ≡ bit_at number place
bit_at_lowest width number place within =
    sym (bit_at_cat_low (number / 2 ^ width) width (number % 2 ^ width) place within)
    ∙ ap (λ (n : ℕ). bit_at n place) (shr_split number width)

pub turns_each_bit : TurnsEachBit
turns_each_bit width content value place narrow fits within =
    let made = difference (2 ^ width - 1) value in
    sym (bit_at_lowest width made place within)
    ∙ ap (λ (n : ℕ). bit_at n place) (sym (mod_complement width value narrow fits))
    ∙ bit_at_lowest width (2 ^ 64 - 1 - value) place within
    ∙ bit_at_not w64 value place (omega arith) (omega arith)

pub differences_add_up : DifferencesAddUp
differences_add_up width number word narrow fits =
    mod_same width (difference number word + word) number 0 (2 ^ (word_bits - width))
    (omega (arith, pow_multiple word_bits width narrow))
