-- A new buddy store is filled by its units.
use Rattle.std.proofs.Common.{◌≡◌, ℕ, zero, suc, ◌+◌, ◌*◌, ◌%◌, ◌^◌, ◌<◌, ◌≤◌, true, List, [], ◌∷◌, ◌++◌, length, replicate, Some, None, refl, ap, sym, ◌∙◌, subst, arith, inl, inr, length-append}
use Rattle.std.proofs.lemmas.Bool.{cases_lt, cases_eq}
use Rattle.std.proofs.lemmas.List.{get_or-replicate, get_or_append_left, get_or_at, get_or_past, length-replicate}
use Rattle.std.specs.FinMap as map
use Rattle.std.specs.Ordering.{nat_cmp}
use Rattle.l6_word.specs.Numerals.{largest_level, unit_size}
use Rattle.l6_store.specs.Blocks.{LiesIn, IsAlignedPlace}
use Rattle.l6_store.specs.Rule.{Order}
use Rattle.l6_store.specs.Buddy.{has, listed, IsListed, first_order, units_from}
use Rattle.l6_store.specs.Tiles.{held_in, held_below, held, Tiles}
use Rattle.l6_store.proofs.Multiples.{times_size}
use Rattle.l6_store.proofs.Counts.{holds_within, holds_before, holds_following}
use Rattle.l6_store.proofs.ListedPieces.{has_cases}

-- lists of which only that of the largest level may have a place
abbrev pub only_top : List ℕ → Order
only_top places = replicate largest_level [] ++ places ∷ []

pub length_only_top : (places : List ℕ) → length (only_top places) ≡ suc largest_level
length_only_top places =
    omega (
      arith,
      length-append (replicate largest_level []) (places ∷ []),
      length-replicate {A = List ℕ} largest_level [],
    )

pub listed_low : (places : List ℕ) (level : ℕ) → level < largest_level
    → listed (only_top places) level ≡ []
listed_low places level less =
    get_or_append_left (replicate largest_level []) (places ∷ []) [] level
    (omega (arith, length-replicate {A = List ℕ} largest_level []))
    ∙ get_or-replicate largest_level level [] [] less

pub listed_largest : (places : List ℕ) → listed (only_top places) largest_level ≡ places
listed_largest places =
    get_or_at (replicate largest_level []) places [] [] largest_level
    (length-replicate {A = List ℕ} largest_level [])

pub listed_past : (places : List ℕ) (level : ℕ) → largest_level < level
    → listed (only_top places) level ≡ []
listed_past places level more =
    get_or_past (only_top places) level [] (omega (arith, length_only_top places))

pub has_none : (place : ℕ) → has place [] ≡ true → ⊥
unfolding has
has_none place is = cc

none_in : (place : ℕ) (places : List ℕ) → places ≡ [] → has place places ≡ true → ⊥
none_in place places empty is =
    let none : has place [] ≡ true = ap (has place) (sym empty) ∙ is in has_none place none

pub top_only : (places : List ℕ) (level place : ℕ) → IsListed (only_top places) level place
    → (level ≡ largest_level) × (has place places ≡ true)
top_only places level place is =
    elim (cases_lt level largest_level)
    as (λ _. (level ≡ largest_level) × (has place places ≡ true)) [
      | inl less ↦
          absurd (none_in place (listed (only_top places) level) (listed_low places level less) is)
      | inr from ↦ elim (cases_eq level largest_level)
          as (λ _. (level ≡ largest_level) × (has place places ≡ true)) [
            | inl same ↦ (
              same,
              ap (has place) (sym (ap (listed (only_top places)) same
                  ∙ listed_largest places)) ∙ is,
            )
            | inr other ↦
                absurd (none_in place (listed (only_top places) level)
                (listed_past places level (omega arith)) is)
          ]
    ]

-- the number of a unit that is listed
pub record Numbered (place units at : ℕ) : Type 0 where
  pub number : ℕ
  pub below : number < units
  pub is : at ≡ place + unit_size * number

pub numbered : (units place at : ℕ) → has at (units_from place units) ≡ true → Numbered place units at
unfolding units_from
numbered zero place at is = absurd (has_none at is)
numbered (suc units) place at is =
    elim (has_cases at place (units_from (place + unit_size) units) is)
    as (λ _. Numbered place (suc units) at) [
      | inl here ↦ record { number = 0; below = omega arith; is = omega arith }
      | inr later ↦
          let rest = numbered units (place + unit_size) at later in
          record {
            number = rest.number + 1;
            below = omega (arith, rest.below);
            is = omega (arith, rest.is);
          }
    ]

-- each word of these units is counted once
held_units_before : (units place at : ℕ) → at < place
    → held_in at unit_size (units_from place units) ≡ 0
unfolding held_in units_from
held_units_before zero place at before = refl
held_units_before (suc units) place at before =
    omega (
      arith,
      holds_before at unit_size place before,
      held_units_before units (place + unit_size) at (omega arith),
    )

held_units : (units place at : ℕ) → place ≤ at → at < place + unit_size * units
    → held_in at unit_size (units_from place units) ≡ 1
unfolding held_in units_from
held_units zero place at from before = absurd (omega arith)
held_units (suc units) place at from before =
    elim (cases_lt at (place + unit_size))
    as (λ _. held_in at unit_size (units_from place (suc units)) ≡ 1) [
      | inl here ↦
          omega (
            arith,
            holds_within at unit_size place from here,
            held_units_before units (place + unit_size) at here,
          )
      | inr later ↦
          omega (
            arith,
            holds_following at unit_size place later,
            held_units units (place + unit_size) at later (omega arith),
          )
    ]

held_none : (bound units at : ℕ) → bound ≤ largest_level
    → held_below bound (first_order units) at ≡ 0
unfolding held_below held_in
held_none zero units at small = refl
held_none (suc bound) units at small =
    omega (
      arith,
      ap (held_in at (2 ^ bound)) (listed_low (units_from unit_size units) bound (omega arith)),
      held_none bound units at (omega arith),
    )

held_first : (units at : ℕ) → held (first_order units) at
    ≡ held_in at unit_size (units_from unit_size units)
unfolding held held_below
held_first units at =
    omega (
      arith,
      ap (held_in at unit_size) (listed_largest (units_from unit_size units)),
      held_none largest_level units at (omega arith),
    )

pub no_block_lies : (at : ℕ) → LiesIn map.empty at → ⊥
no_block_lies at lies =
    let none : Some lies.words ≡ None = sym lies.is ∙ map.get-empty nat_cmp lies.start in cc

pub new_tiled : (units : ℕ) → Tiles units map.empty (first_order units)
new_tiled units = record {
  lists = length_only_top (units_from unit_size units);
  is_aligned = λ level place is.
      let only = top_only (units_from unit_size units) level place is in
      let number = numbered units unit_size place only.1 in
      let product : place ≡ (number.number + 1) * 2 ^ largest_level
      = omega (arith, number.is) in
      subst (λ (k : ℕ). IsAlignedPlace units k place) (sym only.0)
      (record {
        small = omega arith;
        aligned = ap (λ (p : ℕ). p % 2 ^ largest_level) product
            ∙ times_size (number.number + 1) largest_level;
        above = omega (arith, number.is);
        within = omega (arith, number.is, number.below);
      });
  apart = λ at lies. absurd (no_block_lies at lies);
  once = λ at from before none. held_first units at
      ∙ held_units units unit_size at from (omega arith);
  whole = λ level place less lower is is_buddy.
      omega (arith, (top_only (units_from unit_size units) level place is).0);
}
