-- Nodes: the two below one, and the one above.
use Rattle.std.proofs.Common.{◌≡◌, ℕ, zero, suc, ◌+◌, ◌-◌, ◌*◌, ◌/◌, ◌%◌, ◌^◌, ◌<◌, ◌≤◌, ap, sym, ◌∙◌, refl, arith, inl, inr}
use Rattle.std.proofs.lemmas.Nat.{pow_pos, pow-add, mul-le, div-add-mod', shl-shr}
use Rattle.std.proofs.lemmas.Bool.{cases_lt}
use Rattle.l6_places.specs.inner.Tree.{Node, start_of}
use Rattle.l6_places.proofs.Multiples.{double, size_le, times_size}

pub twice : (node level : ℕ) → node * 2 ^ suc level ≡ 2 * node * 2 ^ level
twice node level =
    let is : node * 2 ^ suc level ≡ node * (2 ^ level + 2 ^ level)
    = ap (λ (n : ℕ). node * n) (double level) in
    omega (arith, is)

pub root : (top : ℕ) → Node top top 1
root top = record { small = omega arith; from = omega arith; under = omega (arith, pow_pos top) }

pub lower_node : (top level node : ℕ) → Node top (suc level) node → Node top level (2 * node)
lower_node top level node is =
    let t = twice node level in
    record {
      small = omega (arith, is.small);
      from = omega (arith, is.from, t);
      under = omega (arith, is.under, t);
    }

-- a multiple of a size that is below another multiple of it is so by a whole size
pub gap : (a b size : ℕ) → a * size < b * size → a * size + size ≤ b * size
gap a b size less =
    elim (cases_lt a b) as (λ _. a * size + size ≤ b * size) [
      | inl under ↦ omega (arith, mul-le (a + 1) size b size (omega arith) (omega arith))
      | inr over ↦ absurd (omega (arith, less, mul-le b size a size over (omega arith)))
    ]

-- so many nodes of a level make the whole
pub split : (top level : ℕ) → level ≤ top → 2 ^ top ≡ 2 ^ (top - level) * 2 ^ level
split top level le =
    let sum : top - level + level ≡ top = omega arith in
    ap (λ (k : ℕ). 2 ^ k) (sym sum) ∙ pow-add 2 (top - level) level

-- a node ends within the whole
pub ends : (top level node : ℕ) → Node top level node → node * 2 ^ level + 2 ^ level ≤ 2 ^ top + 2 ^ top
ends top level node is =
    let s = split top level is.small in
    let g = gap node (2 ^ (top - level) + 2 ^ (top - level)) (2 ^ level)
    (omega (arith, s, is.under)) in
    omega (arith, s, g)

pub upper_node : (top level node : ℕ) → Node top (suc level) node → Node top level (2 * node + 1)
upper_node top level node is =
    let t = twice node level in
    let e = ends top (suc level) node is in
    let d = double level in
    record {
      small = omega (arith, is.small);
      from = omega (arith, is.from, t);
      under = omega (arith, is.under, t, e, d, pow_pos level);
    }

pub lower_start : (top level node : ℕ) → start_of top level (2 * node) ≡ start_of top (suc level) node
lower_start top level node = let t = twice node level in omega (arith, t)

pub upper_start : (top level node : ℕ) → Node top (suc level) node
    → start_of top level (2 * node + 1) ≡ start_of top (suc level) node + 2 ^ level
upper_start top level node is = let t = twice node level in omega (arith, t, is.from)

minus_product : (a b size whole : ℕ) → whole ≡ b * size → a * size - whole ≡ (a - b) * size
minus_product a b size whole is =
    elim (cases_lt a b) as (λ _. a * size - whole ≡ (a - b) * size) [
      | inl less ↦
          let m = mul-le a size b size (omega arith) (omega arith) in
          let z : a - b ≡ 0 = omega arith in
          let p : (a - b) * size ≡ 0 * size = ap (λ (n : ℕ). n * size) z in
          omega (arith, is, m, p)
      | inr more ↦
          let z : a ≡ (a - b) + b = omega arith in
          let p : a * size ≡ ((a - b) + b) * size = ap (λ (n : ℕ). n * size) z in
          omega (arith, is, p)
    ]

-- what a node stands for begins at a multiple of its size
pub start_aligned : (top level node : ℕ) → Node top level node → start_of top level node % 2 ^ level ≡ 0
start_aligned top level node is =
    let s = split top level is.small in
    let g : start_of top level node ≡ (node - 2 ^ (top - level)) * 2 ^ level
    = minus_product node (2 ^ (top - level)) (2 ^ level) (2 ^ top) s in
    ap (λ (p : ℕ). p % 2 ^ level) g ∙ times_size (node - 2 ^ (top - level)) level

-- the nodes of a level are those from one number on
pub node_from : (top level node : ℕ) → Node top level node → 2 ^ (top - level) ≤ node
node_from top level node is =
    let s = split top level is.small in
    elim (cases_lt node (2 ^ (top - level))) as (λ _. 2 ^ (top - level) ≤ node) [
      | inl less ↦
          absurd (omega (
            arith,
            s,
            is.from,
            pow_pos level,
            mul-le (node + 1) (2 ^ level) (2 ^ (top - level)) (2 ^ level) (omega arith) (omega arith),
          ))
      | inr more ↦ more
    ]

pub node_below : (top level node : ℕ) → Node top level node → node < 2 * 2 ^ (top - level)
node_below top level node is =
    let s = split top level is.small in
    elim (cases_lt node (2 * 2 ^ (top - level))) as (λ _. node < 2 * 2 ^ (top - level)) [
      | inl less ↦ less
      | inr more ↦
          absurd (omega (
            arith,
            s,
            is.under,
            mul-le (2 * 2 ^ (top - level)) (2 ^ level) node (2 ^ level) more (omega arith),
          ))
    ]

-- only the root is a node of the largest level
pub below_top : (top level node : ℕ) → Node top level node → (node ≡ 1 → ⊥) → level < top
below_top top level node is not =
    elim (cases_lt level top) as (λ _. level < top) [
      | inl less ↦ less
      | inr more ↦
          let z : top - level ≡ 0 = omega arith in
          let one : 2 ^ (top - level) ≡ 1 = ap (λ (k : ℕ). 2 ^ k) z in
          absurd (not (omega (arith, one, node_from top level node is, node_below top level node is)))
    ]

-- a node has a number that the list of all has
pub node_within : (top level node : ℕ) → Node top level node → node < 2 * 2 ^ top
node_within top level node is =
    omega (arith, node_below top level node is, size_le (top - level) top (omega arith))

pub parent_node : (top level node parent : ℕ) → Node top level node → level < top
    → parent ≡ node / 2 → Node top (suc level) parent
parent_node top level node parent is less at =
    let t = twice parent level in
    let up : top - level ≡ suc (top - suc level) = omega arith in
    let size : 2 ^ (top - level) ≡ 2 ^ (top - suc level) + 2 ^ (top - suc level)
    = ap (λ (k : ℕ). 2 ^ k) up ∙ double (top - suc level) in
    let s = split top (suc level) less in
    let half : 2 * parent ≤ node = omega (arith, at) in
    let low : 2 ^ (top - suc level) ≤ parent
    = omega (arith, at, size, node_from top level node is) in
    record {
      small = less;
      from = omega (
        arith,
        s,
        mul-le (2 ^ (top - suc level)) (2 ^ suc level) parent (2 ^ suc level) low (omega arith),
      );
      under = omega (
        arith,
        t,
        is.under,
        mul-le (2 * parent) (2 ^ level) node (2 ^ level) half (omega arith),
      );
    }

-- what a node stands for lies in what the one above it stands for
pub parent_start : (top level node parent : ℕ) → Node top level node → Node top (suc level) parent
    → parent ≡ node / 2 → (start_of top (suc level) parent ≤ start_of top level node)
    × (start_of top level node < start_of top (suc level) parent + 2 ^ suc level)
parent_start top level node parent is above at =
    let t = twice parent level in
    let d = double level in
    let low = mul-le (2 * parent) (2 ^ level) node (2 ^ level) (omega (arith, at)) (omega arith) in
    let high = mul-le node (2 ^ level) (2 * parent + 1) (2 ^ level) (omega (arith, at)) (omega arith) in (
      omega (arith, t, low),
      omega (arith, t, d, high, above.from, is.from, pow_pos level),
    )

-- two nodes of a level that begin at one place are one
pub same_node : (top level one other : ℕ) → Node top level one → Node top level other
    → start_of top level one ≡ start_of top level other → one ≡ other
same_node top level one other is also same =
    elim (cases_lt one other) as (λ _. one ≡ other) [
      | inl less ↦
          absurd (omega (
            arith,
            same,
            is.from,
            also.from,
            pow_pos level,
            mul-le (one + 1) (2 ^ level) other (2 ^ level) (omega arith) (omega arith),
          ))
      | inr more ↦
          elim (cases_lt other one) as (λ _. one ≡ other) [
            | inl less ↦
                absurd (omega (
                  arith,
                  same,
                  is.from,
                  also.from,
                  pow_pos level,
                  mul-le (other + 1) (2 ^ level) one (2 ^ level) (omega arith) (omega arith),
                ))
            | inr none ↦ omega arith
          ]
    ]

-- the node of a level above a place
pub node_at : (top level place node : ℕ) → level ≤ top → place % 2 ^ level ≡ 0 → place < 2 ^ top
    → node ≡ (2 ^ top + place) / 2 ^ level → Node top level node × (start_of top level node ≡ place)
node_at top level place node le multiple small at =
    let s = split top level le in
    let whole : place / 2 ^ level * 2 ^ level + place % 2 ^ level ≡ place
    = div-add-mod' place (2 ^ level) in
    let sum : (2 ^ (top - level) + place / 2 ^ level) * 2 ^ level ≡ 2 ^ top + place
    = omega (arith, s, whole, multiple) in
    let quotient : (2 ^ top + place) / 2 ^ level ≡ 2 ^ (top - level) + place / 2 ^ level
    = ap (λ (n : ℕ). n / 2 ^ level) (sym sum) ∙ shl-shr (2 ^ (top - level) + place / 2 ^ level) level in
    let product : node * 2 ^ level ≡ 2 ^ top + place
    = ap (λ (n : ℕ). n * 2 ^ level) (at ∙ quotient) ∙ sum in (
      record { small = le; from = omega (arith, product); under = omega (arith, product, small) },
      omega (arith, product),
    )

-- and so have the two below a node that is no leaf
pub children_within : (top level node : ℕ) → Node top level node → (level ≡ 0 → ⊥)
    → 2 * node + 1 < 2 * 2 ^ top
children_within top zero node is not = absurd (not refl)
children_within top (suc level) node is not =
    node_within top level (2 * node + 1) (upper_node top level node is)

-- the node that stands for the places from one on
pub node_of_start : (top level node place : ℕ) → Node top level node → place ≡ start_of top level node
    → node ≡ (2 ^ top + place) / 2 ^ level
node_of_start top level node place is at =
    let sum : node * 2 ^ level ≡ 2 ^ top + place = omega (arith, at, is.from) in
    sym (shl-shr node level) ∙ ap (λ (n : ℕ). n / 2 ^ level) sum
