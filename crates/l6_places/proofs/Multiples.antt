-- Multiples of sizes, and which half of a whole piece a piece is.
use Rattle.std.proofs.Common.{◌≡◌, ℕ, suc, ◌+◌, ◌-◌, ◌*◌, ◌/◌, ◌%◌, ◌^◌, ◌<◌, ◌≤◌, ap, sym, ◌∙◌, arith, inl, inr}
use Rattle.std.proofs.lemmas.Bool.{cases_lt}
use Rattle.std.proofs.lemmas.Nat.{pow_pos, pow-add, div_below, le-div, mod_low, div-add-mod', mul-le}

-- the size of the next level is twice that of a level
pub double : (level : ℕ) → 2 ^ suc level ≡ 2 ^ level + 2 ^ level
double level =
    let next : suc level ≡ 1 + level = omega arith in
    let product : 2 ^ suc level ≡ 2 ^ 1 * 2 ^ level = ap (λ (k : ℕ). 2 ^ k) next ∙ pow-add 2 1 level in
    omega (arith, product)

le_product : (a b c : ℕ) → c ≡ a * b → 1 ≤ b → a ≤ c
le_product a b c is some = omega (arith, is, mul-le a 1 a b (omega arith) some)

-- and of larger levels sizes are no smaller
pub size_le : (low high : ℕ) → low ≤ high → 2 ^ low ≤ 2 ^ high
size_le low high le =
    let sum : low + (high - low) ≡ high = omega arith in
    let product : 2 ^ high ≡ 2 ^ low * 2 ^ (high - low)
    = ap (λ (k : ℕ). 2 ^ k) (sym sum) ∙ pow-add 2 low (high - low) in
    let whole : 1 ≤ 2 ^ (high - low) = omega (arith, pow_pos (high - low)) in
    le_product (2 ^ low) (2 ^ (high - low)) (2 ^ high) product whole

-- two multiples that are less than a size apart are one
pub same_multiple : (size p q : ℕ) → p % size ≡ 0 → q % size ≡ 0 → p ≤ q → q < p + size → p ≡ q
same_multiple size p q first second le less =
    let some : 0 < size = omega arith in
    let one : p / size * size + p % size ≡ p = div-add-mod' p size in
    let other : q / size * size + q % size ≡ q = div-add-mod' q size in
    let low : p / size ≤ q / size = le-div (p / size) q size some (omega (arith, one)) in
    let next : (p / size + 1) * size ≡ p + size = omega (arith, one) in
    let high : q / size < p / size + 1
    = div_below q size (p / size + 1) some (omega (arith, next)) in
    let same : p / size ≡ q / size = omega arith in
    let products : p / size * size ≡ q / size * size = ap (λ (n : ℕ). n * size) same in
    omega (arith, one, other, products)

pub times_size : (number level : ℕ) → number * 2 ^ level % 2 ^ level ≡ 0
times_size number level =
    let padded : number * 2 ^ level ≡ number * 2 ^ level + 0 = omega arith in
    ap (λ (p : ℕ). p % 2 ^ level) padded ∙ mod_low number level 0 (pow_pos level)

-- a multiple of a size is one of each lower size
pub multiple_down : (low high place : ℕ) → low ≤ high → place % 2 ^ high ≡ 0 → place % 2 ^ low ≡ 0
multiple_down low high place le multiple =
    let sum : high - low + low ≡ high = omega arith in
    let power : 2 ^ high ≡ 2 ^ (high - low) * 2 ^ low
    = ap (λ (k : ℕ). 2 ^ k) (sym sum) ∙ pow-add 2 (high - low) low in
    let number : ℕ = place / 2 ^ high in
    let divided : number * 2 ^ high + place % 2 ^ high ≡ place = div-add-mod' place (2 ^ high) in
    let product : number * 2 ^ high ≡ number * (2 ^ (high - low) * 2 ^ low)
    = ap (λ (k : ℕ). number * k) power in
    let turned : number * (2 ^ (high - low) * 2 ^ low) ≡ number * 2 ^ (high - low) * 2 ^ low
    = omega arith in
    let is : place ≡ number * 2 ^ (high - low) * 2 ^ low
    = omega (arith, divided, product, turned) in
    ap (λ (p : ℕ). p % 2 ^ low) is ∙ times_size (number * 2 ^ (high - low)) low

-- a multiple of a size more is one
pub multiple_next : (level place : ℕ) → place % 2 ^ level ≡ 0 → (place + 2 ^ level) % 2 ^ level ≡ 0
multiple_next level place multiple =
    let divided : place / 2 ^ level * 2 ^ level + place % 2 ^ level ≡ place
    = div-add-mod' place (2 ^ level) in
    let is : place + 2 ^ level ≡ (place / 2 ^ level + 1) * 2 ^ level = omega (arith, divided) in
    ap (λ (p : ℕ). p % 2 ^ level) is ∙ times_size (place / 2 ^ level + 1) level

-- a multiple of a size below another is so by that size at least
pub apart : (size p q : ℕ) → p % size ≡ 0 → q % size ≡ 0 → p < q → p + size ≤ q
apart size p q first second less =
    elim (cases_lt q (p + size)) as (λ _. p + size ≤ q) [
      | inl near ↦ absurd (omega (arith, same_multiple size p q first second (omega arith) near))
      | inr far ↦ far
    ]
