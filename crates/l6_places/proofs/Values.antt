-- What the values of nodes say of the board.
use Rattle.std.proofs.Common.{◌≡◌, ℕ, zero, suc, ◌+◌, ◌*◌, ◌^◌, ◌<◌, ◌≤◌, Bool, ◌==◌, List, slice_index, if◌then◌else◌, ap, sym, ◌∙◌, subst, arith, inl, inr}
use Rattle.std.specs.Prelude.{max}
use Rattle.std.proofs.lemmas.Nat.{pow_pos}
use Rattle.std.proofs.lemmas.Bool.{cases_lt, eq-eqb, ne_eqb}
use Rattle.std.proofs.lemmas.Bool.Decides.{nat_tests}
use Rattle.l6_places.specs.Board.{Board, Begins, IsOpen}
use Rattle.l6_places.specs.inner.Tree.{Node, start_of, joined, leaf_value, below, value_of, IsTold}
use Rattle.l6_places.proofs.Multiples.{double, same_multiple, multiple_down, multiple_next}
use Rattle.l6_places.proofs.Nodes.{lower_node, upper_node, lower_start, upper_start, start_aligned}

-- two halves joined: as large as each of them, and no larger than the whole
pub joined_most : (level a b : ℕ) → a ≤ level → b ≤ level → joined level a b ≤ suc level
joined_most level a b p q = grind (arith, nat_tests)

pub joined_lower : (level a b : ℕ) → a ≤ level → b ≤ level → a ≤ joined level a b
joined_lower level a b p q = grind (arith, nat_tests)

pub joined_upper : (level a b : ℕ) → a ≤ level → b ≤ level → b ≤ joined level a b
joined_upper level a b p q = grind (arith, nat_tests)

pub joined_full : (level a b : ℕ) → a ≡ level → b ≡ level → joined level a b ≡ suc level
joined_full level a b p q = grind (arith, nat_tests)

-- the larger one, where not both are whole
pub joined_larger : (level a b : ℕ) → (a ≡ level → b ≡ level → ⊥) → joined level a b ≡ max a b
joined_larger level a b not = grind (arith, nat_tests)

pub joined_other : (level a b : ℕ) → (b ≡ level → a ≡ level → ⊥) → joined level a b ≡ max b a
joined_other level a b not = grind (arith, nat_tests)

pub larger_most : (a b most : ℕ) → a ≤ most → b ≤ most → max a b ≤ most
larger_most a b most p q = grind (arith, nat_tests)

pub larger_right : (a b : ℕ) → b ≤ max a b
larger_right a b = grind (arith, nat_tests)

-- and as large as the whole only if both are
pub joined_whole : (level a b : ℕ) → a ≤ level → b ≤ level → joined level a b ≡ suc level
    → (a ≡ level) × (b ≡ level)
joined_whole level a b p q is = grind (arith, nat_tests)

-- what reaches less than the whole is in one of them
pub joined_either : (level a b k : ℕ) → k ≤ level → k ≤ joined level a b → a < k → k ≤ b
joined_either level a b k small is less = grind (arith, nat_tests)

-- a value is that of what is below, or 0 at a block
pub value_open : (b : Board) (tree : List ℕ) (level node : ℕ)
    → (Begins b.marks (start_of b.top level node) level → ⊥)
    → value_of b tree level node ≡ below b tree level node
value_open b tree level node none =
    ap (λ (t : Bool). if t then 0 else below b tree level node)
    (ne_eqb (slice_index b.marks (start_of b.top level node)) (suc level) none)

pub value_block : (b : Board) (tree : List ℕ) (level node : ℕ)
    → Begins b.marks (start_of b.top level node) level → value_of b tree level node ≡ 0
value_block b tree level node is =
    ap (λ (t : Bool). if t then 0 else below b tree level node)
    (eq-eqb (slice_index b.marks (start_of b.top level node)) (suc level) is)

least_value : (t : Bool) (x : ℕ) → (if t then 0 else x) ≤ x
least_value t x = grind (arith, nat_tests)

leaf_most : (b : Board) (place : ℕ) → leaf_value b place ≤ 1
leaf_most b place = grind (arith, nat_tests)

leaf_inside : (b : Board) (place : ℕ) → leaf_value b place ≡ 1 → (b.first ≤ place) × (place < b.end)
leaf_inside b place is = grind (arith, nat_tests)

pub leaf_is : (b : Board) (place : ℕ) → b.first ≤ place → place < b.end → leaf_value b place ≡ 1
leaf_is b place low high = grind (arith, nat_tests)

-- no value is larger than that of an open node
pub most : (b : Board) (tree : List ℕ) → IsTold b tree → (level node : ℕ) → Node b.top level node
    → slice_index tree node ≤ suc level
most b tree told zero node is =
    omega (
      arith,
      told.each 0 node is,
      least_value (slice_index b.marks (start_of b.top 0 node) == 1) (leaf_value b (start_of b.top 0 node)),
      leaf_most b (start_of b.top 0 node),
    )
most b tree told (suc level) node is =
    let low = most b tree told level (2 * node) (lower_node b.top level node is) in
    let high = most b tree told level (2 * node + 1) (upper_node b.top level node is) in
    let j = joined_most (suc level) (slice_index tree (2 * node)) (slice_index tree (2 * node + 1))
    low high in
    let l = least_value (slice_index b.marks (start_of b.top (suc level) node) == suc (suc level))
    (below b tree (suc level) node) in
    omega (arith, told.each (suc level) node is, l, j)

-- no block of a node's level begins at an open place that the node stands for
no_block : (b : Board) (level node k place : ℕ) → IsOpen b (2 ^ k) place
    → start_of b.top level node ≤ place → place < start_of b.top level node + 2 ^ level
    → Begins b.marks (start_of b.top level node) level → ⊥
no_block b level node k place o from under is =
    let f = o.free (start_of b.top level node) level place is (omega arith)
    (omega (arith, pow_pos k)) from in
    omega (arith, f, under)

-- the halves of what is open are open
pub lower_half : (b : Board) (level place : ℕ) → IsOpen b (2 ^ suc level) place
    → IsOpen b (2 ^ level) place
lower_half b level place o = record {
  aligned = multiple_down level (suc level) place (omega arith) o.aligned;
  above = o.above;
  within = omega (arith, o.within, double level);
  free = λ start l at is from under more.
      o.free start l at is from (omega (arith, double level, under)) more;
}

pub upper_half : (b : Board) (level place : ℕ) → IsOpen b (2 ^ suc level) place
    → IsOpen b (2 ^ level) (place + 2 ^ level)
upper_half b level place o = record {
  aligned = multiple_next level place
      (multiple_down level (suc level) place (omega arith) o.aligned);
  above = omega (arith, o.above);
  within = omega (arith, o.within, double level);
  free = λ start l at is from under more.
      o.free start l at is (omega (arith, from)) (omega (arith, double level, under)) more;
}

-- an open place tells of its level at each node above it
pub told_open : (b : Board) (tree : List ℕ) → IsTold b tree → (level node k place : ℕ)
    → Node b.top level node → k ≤ level → IsOpen b (2 ^ k) place
    → start_of b.top level node ≤ place → place < start_of b.top level node + 2 ^ level
    → suc k ≤ slice_index tree node
told_open b tree told zero node k place is small o from under =
    let v = told.each 0 node is ∙ value_open b tree 0 node (no_block b 0 node k place o from under)
    in
    let p : start_of b.top 0 node ≡ place = omega (arith, from, under) in
    let l = leaf_is b (start_of b.top 0 node) (omega (arith, o.above, p))
    (omega (arith, o.within, p, pow_pos k)) in
    omega (arith, small, v, l)
told_open b tree told (suc level) node k place is small o from under =
    let v = told.each (suc level) node is
    ∙ value_open b tree (suc level) node (no_block b (suc level) node k place o from under) in
    let low = lower_node b.top level node is in
    let high = upper_node b.top level node is in
    let low_start = lower_start b.top level node in
    let high_start = upper_start b.top level node is in
    let a : ℕ = slice_index tree (2 * node) in
    let c : ℕ = slice_index tree (2 * node + 1) in
    let am = most b tree told level (2 * node) low in
    let cm = most b tree told level (2 * node + 1) high in
    let d = double level in
    elim (cases_lt k (suc level)) as (λ _. suc k ≤ slice_index tree node) [
      | inl less ↦
          elim (cases_lt place (start_of b.top level (2 * node + 1)))
          as (λ _. suc k ≤ slice_index tree node) [
            | inl before ↦
                let i = told_open b tree told level (2 * node) k place low (omega arith) o
                (omega (arith, low_start, from)) (omega (arith, low_start, high_start, before)) in
                omega (arith, v, i, joined_lower (suc level) a c am cm)
            | inr behind ↦
                let i = told_open b tree told level (2 * node + 1) k place high (omega arith) o
                behind (omega (arith, d, high_start, under)) in
                omega (arith, v, i, joined_upper (suc level) a c am cm)
          ]
      | inr more ↦
          let k_is : k ≡ suc level = omega arith in
          let whole : IsOpen b (2 ^ suc level) place
          = subst (λ (n : ℕ). IsOpen b (2 ^ n) place) k_is o in
          let p : start_of b.top (suc level) node ≡ place
          = same_multiple (2 ^ suc level) (start_of b.top (suc level) node) place
          (start_aligned b.top (suc level) node is) whole.aligned from under in
          let i = told_open b tree told level (2 * node) level place low (omega arith)
          (lower_half b level place whole) (omega (arith, low_start, p))
          (omega (arith, low_start, p, pow_pos level)) in
          let j = told_open b tree told level (2 * node + 1) level (place + 2 ^ level) high
          (omega arith) (upper_half b level place whole) (omega (arith, high_start, p))
          (omega (arith, high_start, p, pow_pos level)) in
          omega (
            arith,
            k_is,
            v,
            joined_full (suc level) a c (omega (arith, i, am)) (omega (arith, j, cm)),
          )
    ]

-- below a node of the greatest value nothing is but open places
pub record IsBare (b : Board) (level node : ℕ) : Type 0 where
  pub above : b.first ≤ start_of b.top level node
  pub within : start_of b.top level node + 2 ^ level ≤ b.end
  pub none : (place lower : ℕ) → lower ≤ level → start_of b.top level node ≤ place
      → place < start_of b.top level node + 2 ^ level → Begins b.marks place lower → ⊥

-- at a node with a value no block of its level begins
pub unmarked : (b : Board) (tree : List ℕ) → IsTold b tree → (level node value : ℕ)
    → Node b.top level node → slice_index tree node ≡ suc value
    → Begins b.marks (start_of b.top level node) level → ⊥
unmarked b tree told level node value is some begins =
    omega (arith, told.each level node is ∙ value_block b tree level node begins, some)

pub bare : (b : Board) (tree : List ℕ) → IsTold b tree → (level node : ℕ) → Node b.top level node
    → slice_index tree node ≡ suc level → IsBare b level node
bare b tree told zero node is full =
    let not = unmarked b tree told 0 node 0 is full in
    let v = sym (value_open b tree 0 node not) ∙ sym (told.each 0 node is) ∙ full in
    let inside = leaf_inside b (start_of b.top 0 node) v in
    record {
      above = inside.0;
      within = omega (arith, inside.1);
      none = λ place lower le from under begins.
          let p : place ≡ start_of b.top 0 node = omega (arith, from, under) in
          let l : lower ≡ 0 = omega arith in
          not (ap (slice_index b.marks) (sym p) ∙ begins ∙ ap (λ (n : ℕ). suc n) l);
    }
bare b tree told (suc level) node is full =
    let not = unmarked b tree told (suc level) node (suc level) is full in
    let v = sym (value_open b tree (suc level) node not) ∙ sym (told.each (suc level) node is)
    ∙ full in
    let low = lower_node b.top level node is in
    let high = upper_node b.top level node is in
    let low_start = lower_start b.top level node in
    let high_start = upper_start b.top level node is in
    let am = most b tree told level (2 * node) low in
    let cm = most b tree told level (2 * node + 1) high in
    let both = joined_whole (suc level) (slice_index tree (2 * node))
    (slice_index tree (2 * node + 1)) am cm v in
    let one = bare b tree told level (2 * node) low both.0 in
    let other = bare b tree told level (2 * node + 1) high both.1 in
    let d = double level in
    record {
      above = omega (arith, one.above, low_start);
      within = omega (arith, other.within, high_start, d);
      none = λ place lower le from under begins.
          elim (cases_lt lower (suc level)) as (λ _. ⊥) [
            | inl less ↦
                elim (cases_lt place (start_of b.top level (2 * node + 1))) as (λ _. ⊥) [
                  | inl before ↦
                      one.none place lower (omega arith) (omega (arith, low_start, from))
                      (omega (arith, low_start, high_start, before)) begins
                  | inr behind ↦
                      other.none place lower (omega arith) behind
                      (omega (arith, high_start, d, under)) begins
                ]
            | inr more ↦
                let l : lower ≡ suc level = omega arith in
                let here : Begins b.marks place (suc level)
                = begins ∙ ap (λ (n : ℕ). suc n) l in
                let p : start_of b.top (suc level) node ≡ place
                = same_multiple (2 ^ suc level) (start_of b.top (suc level) node) place
                (start_aligned b.top (suc level) node is) (told.fits.each place (suc level) here).aligned
                from under in
                not (ap (slice_index b.marks) p ∙ here)
          ];
    }
