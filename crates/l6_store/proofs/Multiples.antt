-- Multiples of sizes, and which half of a whole piece a piece is.
use Rattle.std.proofs.Common.{◌≡◌, ℕ, suc, ◌+◌, ◌-◌, ◌*◌, ◌/◌, ◌%◌, ◌^◌, ◌<◌, ◌≤◌, Bool, false, ◌==◌, if◌then◌else◌, ap, sym, ◌∙◌, arith, inl, inr}
use Rattle.std.proofs.lemmas.Bool.{cases_lt, eq-eqb, ne_eqb}
use Rattle.std.proofs.lemmas.Nat.{pow_pos, pow-add, div_below, le-div, mod_low, mod_below, div-add-mod', mod-pow-add, mul-le}
use Rattle.std.specs.Int.Bits.{bit_xor, xor_assoc, xor_self, xor_shifted, xor_zero_r}
use Rattle.l6_store.specs.Buddy.{buddy_of, whole_of}

-- the size of the next level is twice that of a level
pub double : (level : ℕ) → 2 ^ suc level ≡ 2 ^ level + 2 ^ level
double level =
    let next : suc level ≡ 1 + level = omega arith in
    let product : 2 ^ suc level ≡ 2 ^ 1 * 2 ^ level = ap (λ (k : ℕ). 2 ^ k) next ∙ pow-add 2 1 level in
    omega (arith, product)

le_product : (a b c : ℕ) → c ≡ a * b → 1 ≤ b → a ≤ c
le_product a b c is some = omega (arith, is, mul-le a 1 a b (omega arith) some)

-- and of larger levels sizes are no smaller
pub size_le : (low high : ℕ) → low ≤ high → 2 ^ low ≤ 2 ^ high
size_le low high le =
    let sum : low + (high - low) ≡ high = omega arith in
    let product : 2 ^ high ≡ 2 ^ low * 2 ^ (high - low)
    = ap (λ (k : ℕ). 2 ^ k) (sym sum) ∙ pow-add 2 low (high - low) in
    let whole : 1 ≤ 2 ^ (high - low) = omega (arith, pow_pos (high - low)) in
    le_product (2 ^ low) (2 ^ (high - low)) (2 ^ high) product whole

-- two multiples that are less than a size apart are one
pub same_multiple : (size p q : ℕ) → p % size ≡ 0 → q % size ≡ 0 → p ≤ q → q < p + size → p ≡ q
same_multiple size p q first second le less =
    let some : 0 < size = omega arith in
    let one : p / size * size + p % size ≡ p = div-add-mod' p size in
    let other : q / size * size + q % size ≡ q = div-add-mod' q size in
    let low : p / size ≤ q / size = le-div (p / size) q size some (omega (arith, one)) in
    let next : (p / size + 1) * size ≡ p + size = omega (arith, one) in
    let high : q / size < p / size + 1
    = div_below q size (p / size + 1) some (omega (arith, next)) in
    let same : p / size ≡ q / size = omega arith in
    let products : p / size * size ≡ q / size * size = ap (λ (n : ℕ). n * size) same in
    omega (arith, one, other, products)

pub times_size : (number level : ℕ) → number * 2 ^ level % 2 ^ level ≡ 0
times_size number level =
    let padded : number * 2 ^ level ≡ number * 2 ^ level + 0 = omega arith in
    ap (λ (p : ℕ). p % 2 ^ level) padded ∙ mod_low number level 0 (pow_pos level)

-- a multiple of a size is one of each lower size
pub multiple_down : (low high place : ℕ) → low ≤ high → place % 2 ^ high ≡ 0 → place % 2 ^ low ≡ 0
multiple_down low high place le multiple =
    let sum : high - low + low ≡ high = omega arith in
    let power : 2 ^ high ≡ 2 ^ (high - low) * 2 ^ low
    = ap (λ (k : ℕ). 2 ^ k) (sym sum) ∙ pow-add 2 (high - low) low in
    let number : ℕ = place / 2 ^ high in
    let divided : number * 2 ^ high + place % 2 ^ high ≡ place = div-add-mod' place (2 ^ high) in
    let product : number * 2 ^ high ≡ number * (2 ^ (high - low) * 2 ^ low)
    = ap (λ (k : ℕ). number * k) power in
    let turned : number * (2 ^ (high - low) * 2 ^ low) ≡ number * 2 ^ (high - low) * 2 ^ low
    = omega arith in
    let is : place ≡ number * 2 ^ (high - low) * 2 ^ low
    = omega (arith, divided, product, turned) in
    ap (λ (p : ℕ). p % 2 ^ low) is ∙ times_size (number * 2 ^ (high - low)) low

-- a multiple of a size more is one
pub multiple_next : (level place : ℕ) → place % 2 ^ level ≡ 0 → (place + 2 ^ level) % 2 ^ level ≡ 0
multiple_next level place multiple =
    let divided : place / 2 ^ level * 2 ^ level + place % 2 ^ level ≡ place
    = div-add-mod' place (2 ^ level) in
    let is : place + 2 ^ level ≡ (place / 2 ^ level + 1) * 2 ^ level = omega (arith, divided) in
    ap (λ (p : ℕ). p % 2 ^ level) is ∙ times_size (place / 2 ^ level + 1) level

-- a piece is the lower half of a whole piece, which begins where it does, or the upper half
pub data Half (level place : ℕ) : Type 0 where
  is_lower : place % 2 ^ suc level ≡ 0 → Half level place
  is_upper : (lower : ℕ) → lower % 2 ^ suc level ≡ 0 → place ≡ lower + 2 ^ level → Half level place

pub which_half : (level place : ℕ) → place % 2 ^ level ≡ 0 → Half level place
which_half level place multiple =
    let next : suc level ≡ 1 + level = omega arith in
    let bit : ℕ = place / 2 ^ level % 2 in
    let small : bit < 2 = mod_below (place / 2 ^ level) 2 (omega arith) in
    let rest : place % 2 ^ suc level ≡ bit * 2 ^ level + place % 2 ^ level
    = ap (λ (k : ℕ). place % 2 ^ k) next ∙ mod-pow-add place 1 level in
    let divided : place / 2 ^ suc level * 2 ^ suc level + place % 2 ^ suc level ≡ place
    = div-add-mod' place (2 ^ suc level) in
    elim (cases_lt bit 1) as (λ _. Half level place) [
      | inl none ↦
          let zero_is : bit ≡ 0 = omega arith in
          let product : bit * 2 ^ level ≡ 0 * 2 ^ level = ap (λ (b : ℕ). b * 2 ^ level) zero_is in
          is_lower (omega (arith, rest, product, multiple))
      | inr set ↦
          let one_is : bit ≡ 1 = omega arith in
          let product : bit * 2 ^ level ≡ 1 * 2 ^ level = ap (λ (b : ℕ). b * 2 ^ level) one_is in
          is_upper (place / 2 ^ suc level * 2 ^ suc level)
          (times_size (place / 2 ^ suc level) (suc level))
          (omega (arith, divided, rest, product, multiple))
    ]

-- an upper half begins at no multiple of the whole size
upper_rest : (level lower : ℕ) → lower % 2 ^ suc level ≡ 0
    → (lower + 2 ^ level) % 2 ^ suc level ≡ 2 ^ level
upper_rest level lower multiple =
    let divided : lower / 2 ^ suc level * 2 ^ suc level + lower % 2 ^ suc level ≡ lower
    = div-add-mod' lower (2 ^ suc level) in
    let is : lower + 2 ^ level ≡ lower / 2 ^ suc level * 2 ^ suc level + 2 ^ level
    = omega (arith, divided, multiple) in
    ap (λ (p : ℕ). p % 2 ^ suc level) is
    ∙ mod_low (lower / 2 ^ suc level) (suc level) (2 ^ level)
    (omega (arith, double level, pow_pos level))

upper_test : (level lower : ℕ) → lower % 2 ^ suc level ≡ 0
    → ((lower + 2 ^ level) % 2 ^ suc level == 0) ≡ false
upper_test level lower multiple =
    ne_eqb ((lower + 2 ^ level) % 2 ^ suc level) 0
    (λ none. absurd (omega (arith, upper_rest level lower multiple, pow_pos level)))

-- so the buddies of halves are these, and so is the whole
pub buddy_of_lower : (level place : ℕ) → place % 2 ^ suc level ≡ 0
    → buddy_of level place ≡ place + 2 ^ level
buddy_of_lower level place multiple =
    ap (λ (b : Bool). if b then place + 2 ^ level else place - 2 ^ level)
    (eq-eqb (place % 2 ^ suc level) 0 multiple)

pub whole_of_lower : (level place : ℕ) → place % 2 ^ suc level ≡ 0 → whole_of level place ≡ place
whole_of_lower level place multiple =
    ap (λ (b : Bool). if b then place else place - 2 ^ level)
    (eq-eqb (place % 2 ^ suc level) 0 multiple)

pub buddy_of_upper : (level lower : ℕ) → lower % 2 ^ suc level ≡ 0
    → buddy_of level (lower + 2 ^ level) ≡ lower
buddy_of_upper level lower multiple =
    let back : lower + 2 ^ level - 2 ^ level ≡ lower = omega arith in
    ap (λ (b : Bool). if b then lower + 2 ^ level + 2 ^ level else lower + 2 ^ level - 2 ^ level)
    (upper_test level lower multiple) ∙ back

-- so its place differs in one bit
one_bit : (level place : ℕ) → place % 2 ^ suc level ≡ 0
    → bit_xor place (2 ^ level) ≡ place + 2 ^ level
one_bit level place multiple =
    let number : ℕ = place / 2 ^ suc level in
    let is : place ≡ number * 2 ^ suc level
    = omega (arith, div-add-mod' place (2 ^ suc level), multiple) in
    let small : 2 ^ level < 2 ^ suc level = omega (arith, double level, pow_pos level) in
    ap (λ (p : ℕ). bit_xor p (2 ^ level)) is
    ∙ xor_shifted number (suc level) (2 ^ level) small
    ∙ ap (λ (p : ℕ). p + 2 ^ level) (sym is)

pub buddy_of_bit : (level place : ℕ) → place % 2 ^ level ≡ 0
    → bit_xor place (2 ^ level) ≡ buddy_of level place
buddy_of_bit level place aligned =
    elim (which_half level place aligned) as (λ _. bit_xor place (2 ^ level) ≡ buddy_of level place) [
      | is_lower lower ↦ one_bit level place lower ∙ sym (buddy_of_lower level place lower)
      | is_upper lower multiple at ↦
          ap (λ (p : ℕ). bit_xor p (2 ^ level)) (at ∙ sym (one_bit level lower multiple))
          ∙ xor_assoc lower (2 ^ level) (2 ^ level)
          ∙ ap (bit_xor lower) (xor_self (2 ^ level))
          ∙ xor_zero_r lower
          ∙ sym (ap (buddy_of level) at ∙ buddy_of_upper level lower multiple)
    ]

pub whole_of_upper : (level lower : ℕ) → lower % 2 ^ suc level ≡ 0
    → whole_of level (lower + 2 ^ level) ≡ lower
whole_of_upper level lower multiple =
    let back : lower + 2 ^ level - 2 ^ level ≡ lower = omega arith in
    ap (λ (b : Bool). if b then lower + 2 ^ level else lower + 2 ^ level - 2 ^ level)
    (upper_test level lower multiple) ∙ back
