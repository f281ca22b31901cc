-- The way down the tree.
use Rattle.std.proofs.Common.{◌≡◌, ℕ, suc, ◌+◌, ◌-◌, ◌*◌, ◌%◌, ◌^◌, ◌<◌, ◌≤◌, List, slice_index, Some, None, ap, sym, ◌∙◌, subst, arith, inl, inr}
use Rattle.std.proofs.lemmas.Nat.{pow_pos}
use Rattle.std.proofs.Math.Nat.{mod-eq_of_lt}
use Rattle.std.proofs.lemmas.Bool.{cases_lt}
use Rattle.l6_places.specs.Board.{Board, Begins, IsOpen, IsLowest}
use Rattle.l6_places.specs.inner.Tree.{Node, start_of, joined, IsTold}
use Rattle.l6_places.specs.inner.Descent.{Descends, IsUncovered}
use Rattle.l6_places.proofs.Multiples.{double, size_le, same_multiple, multiple_down, apart}
use Rattle.l6_places.proofs.Nodes.{root, lower_node, upper_node, lower_start, upper_start, start_aligned}
use Rattle.l6_places.proofs.Values.{IsBare, bare, most, told_open, unmarked, value_open, joined_either}

-- what is bare and not covered is open
pub bare_open : (b : Board) (tree : List ℕ) → IsTold b tree → (level node : ℕ) → Node b.top level node
    → IsBare b level node → IsUncovered b level node → IsOpen b (2 ^ level) (start_of b.top level node)
bare_open b tree told level node is empty uncovered =
    let multiple = start_aligned b.top level node is in
    let place : ℕ = start_of b.top level node in
    record {
      aligned = multiple;
      above = empty.above;
      within = empty.within;
      free = λ start l at begins from under more.
          let its = (told.fits.each start l begins).aligned in
          elim (cases_lt at (start + 2 ^ l)) as (λ _. start + 2 ^ l ≤ at) [
            | inr behind ↦ behind
            | inl within ↦
                elim (cases_lt level l) as (λ _. start + 2 ^ l ≤ at) [
                  | inl larger ↦
                      elim (cases_lt place start) as (λ _. start + 2 ^ l ≤ at) [
                        | inl above ↦
                            absurd (omega (
                              arith,
                              under,
                              more,
                              apart (2 ^ level) place start multiple
                                  (multiple_down level l start (omega arith) its) above,
                            ))
                        | inr low ↦
                            absurd (uncovered start l begins larger low (omega (arith, from, within)))
                      ]
                  | inr smaller ↦
                      elim (cases_lt start place) as (λ _. start + 2 ^ l ≤ at) [
                        | inl low ↦
                            omega (
                              arith,
                              from,
                              apart (2 ^ l) start place its
                                  (multiple_down l level place smaller multiple) low,
                            )
                        | inr above ↦
                            absurd (empty.none start l smaller above (omega (arith, more, under)) begins)
                      ]
                ]
          ];
    }

-- no block covers the root
pub root_uncovered : (b : Board) (tree : List ℕ) → IsTold b tree → IsUncovered b b.top 1
root_uncovered b tree told place upper begins larger low under =
    omega (arith, larger, (told.fits.each place upper begins).small)

-- nor what is below a node that is neither covered nor a block
pub below_uncovered : (b : Board) (tree : List ℕ) → IsTold b tree → (level node child : ℕ)
    → Node b.top (suc level) node → (Begins b.marks (start_of b.top (suc level) node) (suc level) → ⊥)
    → IsUncovered b (suc level) node
    → start_of b.top (suc level) node ≤ start_of b.top level child
    → start_of b.top level child < start_of b.top (suc level) node + 2 ^ suc level
    → IsUncovered b level child
below_uncovered b tree told level node child is not uncovered from under =
    λ place upper begins larger low high.
    let multiple = start_aligned b.top (suc level) node is in
    let start : ℕ = start_of b.top (suc level) node in
    let its = (told.fits.each place upper begins).aligned in
    elim (cases_lt (suc level) upper) as (λ _. ⊥) [
      | inl more ↦
          elim (cases_lt start place) as (λ _. ⊥) [
            | inl behind ↦
                omega (
                  arith,
                  low,
                  under,
                  apart (2 ^ suc level) start place multiple
                      (multiple_down (suc level) upper place (omega arith) its) behind,
                )
            | inr before ↦
                uncovered place upper begins more before (omega (arith, from, high))
          ]
      | inr most ↦
          let l : upper ≡ suc level = omega (arith, larger, most) in
          let here : Begins b.marks place (suc level) = begins ∙ ap (λ (n : ℕ). suc n) l in
          let size : 2 ^ upper ≡ 2 ^ suc level = ap (λ (n : ℕ). 2 ^ n) l in
          let fit : place % 2 ^ suc level ≡ 0 = (told.fits.each place (suc level) here).aligned in
          let p : start ≡ place
          = elim (cases_lt start place) as (λ _. start ≡ place) [
            | inl behind ↦
                absurd (omega (arith, low, under, apart (2 ^ suc level) start place multiple fit behind))
            | inr before ↦
                sym (same_multiple (2 ^ suc level) place start fit multiple before
                (omega (arith, size, from, high)))
          ] in
          not (ap (slice_index b.marks) p ∙ here)
    ]

-- nothing is open where the root says so
pub root_none : (b : Board) (tree : List ℕ) → IsTold b tree → (wanted : ℕ) → wanted ≤ b.top
    → slice_index tree 1 ≤ wanted → IsLowest b (2 ^ wanted) None
root_none b tree told wanted small none = λ place o.
    omega (
      arith,
      none,
      told_open b tree told b.top 1 wanted place (root b.top) small o (omega arith)
          (omega (arith, o.within, told.low, pow_pos wanted)),
    )

pub descends_first : (b : Board) (tree : List ℕ) → IsTold b tree → (wanted : ℕ) → wanted ≤ b.top
    → wanted < slice_index tree 1 → Descends b tree wanted b.top 1
descends_first b tree told wanted small some = record {
  is_node = root b.top;
  least = small;
  has = some;
  uncovered = root_uncovered b tree told;
  before = λ place less _. omega (arith, less);
}

-- the node is no block, and so has the value of what is below it
joined_value : (b : Board) (tree : List ℕ) → IsTold b tree → (wanted level node : ℕ)
    → Descends b tree wanted (suc level) node
    → slice_index tree node ≡ joined (suc level) (slice_index tree (2 * node)) (slice_index tree (2 * node + 1))
joined_value b tree told wanted level node down =
    told.each (suc level) node down.is_node
    ∙ value_open b tree (suc level) node (unmarked b tree told (suc level) node
    (slice_index tree node - 1) down.is_node (omega (arith, down.has)))

pub descends_lower : (b : Board) (tree : List ℕ) → IsTold b tree → (wanted level node : ℕ)
    → wanted ≤ level → Descends b tree wanted (suc level) node
    → wanted < slice_index tree (2 * node) → Descends b tree wanted level (2 * node)
descends_lower b tree told wanted level node least down some =
    let s = lower_start b.top level node in
    let not = unmarked b tree told (suc level) node (slice_index tree node - 1) down.is_node
    (omega (arith, down.has)) in
    record {
      is_node = lower_node b.top level node down.is_node;
      least = least;
      has = some;
      uncovered = below_uncovered b tree told level node (2 * node) down.is_node not down.uncovered
          (omega (arith, s)) (omega (arith, s, pow_pos (suc level)));
      before = λ place less o. down.before place (omega (arith, s, less)) o;
    }

pub descends_upper : (b : Board) (tree : List ℕ) → IsTold b tree → (wanted level node : ℕ)
    → wanted ≤ level → Descends b tree wanted (suc level) node
    → slice_index tree (2 * node) ≤ wanted → Descends b tree wanted level (2 * node + 1)
descends_upper b tree told wanted level node least down none =
    let l = lower_start b.top level node in
    let s = upper_start b.top level node down.is_node in
    let d = double level in
    let not = unmarked b tree told (suc level) node (slice_index tree node - 1) down.is_node
    (omega (arith, down.has)) in
    let v = joined_value b tree told wanted level node down in
    record {
      is_node = upper_node b.top level node down.is_node;
      least = least;
      has = joined_either (suc level) (slice_index tree (2 * node)) (slice_index tree (2 * node + 1))
          (suc wanted) (omega (arith, least)) (omega (arith, v, down.has)) (omega (arith, none));
      uncovered = below_uncovered b tree told level node (2 * node + 1) down.is_node not
          down.uncovered (omega (arith, s)) (omega (arith, s, d, pow_pos level));
      before = λ place less o.
          elim (cases_lt place (start_of b.top (suc level) node)) as (λ _. ⊥) [
            | inl lower ↦ down.before place lower o
            | inr inside ↦
                omega (
                  arith,
                  none,
                  told_open b tree told level (2 * node) wanted place
                      (lower_node b.top level node down.is_node) least o (omega (arith, l, inside))
                      (omega (arith, l, s, less)),
                )
          ];
    }

pub descends_done : (b : Board) (tree : List ℕ) → IsTold b tree → (wanted node : ℕ)
    → Descends b tree wanted wanted node
    → IsLowest b (2 ^ wanted) (Some (start_of b.top wanted node))
descends_done b tree told wanted node down =
    let full : slice_index tree node ≡ suc wanted
    = omega (arith, down.has, most b tree told wanted node down.is_node) in (
      bare_open b tree told wanted node down.is_node
          (bare b tree told wanted node down.is_node full) down.uncovered,
      down.before,
    )

-- the steps as the loop takes them
pub step_lower : (b : Board) (tree : List ℕ) → IsTold b tree → (wanted now node child : ℕ)
    → wanted < now → Descends b tree wanted now node → child ≡ 2 * node
    → wanted < slice_index tree child → Descends b tree wanted (now - 1) child
step_lower b tree told wanted now node child less down is some =
    let up : now ≡ suc (now - 1) = omega arith in
    subst (λ (c : ℕ). Descends b tree wanted (now - 1) c) (sym is)
    (descends_lower b tree told wanted (now - 1) node (omega arith)
    (subst (λ (l : ℕ). Descends b tree wanted l node) up down)
    (subst (λ (c : ℕ). wanted < slice_index tree c) is some))

pub step_upper : (b : Board) (tree : List ℕ) → IsTold b tree → (wanted now node child other : ℕ)
    → wanted < now → Descends b tree wanted now node → child ≡ 2 * node → other ≡ 2 * node + 1
    → slice_index tree child ≤ wanted → Descends b tree wanted (now - 1) other
step_upper b tree told wanted now node child other less down is other_is none =
    let up : now ≡ suc (now - 1) = omega arith in
    subst (λ (c : ℕ). Descends b tree wanted (now - 1) c) (sym other_is)
    (descends_upper b tree told wanted (now - 1) node (omega arith)
    (subst (λ (l : ℕ). Descends b tree wanted l node) up down)
    (subst (λ (c : ℕ). slice_index tree c ≤ wanted) is none))

-- how the machine computes where a node begins
pub start_shifted : (top level node leaves : ℕ) → top ≤ 24 → Node top level node → leaves ≡ 2 ^ top
    → node * 2 ^ level % 2 ^ 64 - leaves ≡ start_of top level node
start_shifted top level node leaves small is all =
    let most : 2 ^ top ≤ 2 ^ 24 = size_le top 24 small in
    let a : node * 2 ^ level % 2 ^ 64 ≡ node * 2 ^ level
    = mod-eq_of_lt (omega (arith, is.under, most)) in
    omega (arith, a, all)

pub start_small : (top level node : ℕ) → top ≤ 24 → Node top level node
    → start_of top level node < 2 ^ 24
start_small top level node small is =
    let most : 2 ^ top ≤ 2 ^ 24 = size_le top 24 small in
    omega (arith, is.under, most)

pub done : (b : Board) (tree : List ℕ) → IsTold b tree → (wanted now node place : ℕ)
    → now ≤ wanted → Descends b tree wanted now node → place ≡ start_of b.top wanted node
    → IsLowest b (2 ^ wanted) (Some place)
done b tree told wanted now node place le down is =
    let same : now ≡ wanted = omega (arith, down.least) in
    subst (λ (p : ℕ). IsLowest b (2 ^ wanted) (Some p)) (sym is)
    (descends_done b tree told wanted node
    (subst (λ (l : ℕ). Descends b tree wanted l node) same down))
