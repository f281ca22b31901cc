-- Units of which some are used.
use Rattle.std.proofs.Common.{◌≡◌, ℕ, ◌/◌, ◌%◌, ◌<◌, ◌≤◌, Bool, true, false, List, length, get_or, set, refl, ap, sym, ◌∙◌, arith, inl, inr}
use Rattle.std.specs.Prelude.{◌==◌, ◌||◌, not, slice_get, unwrap_or}
use Rattle.std.proofs.lemmas.Bool.{cases_eq, ne_eqb}
use Rattle.std.proofs.lemmas.List.{get_or-set_other, get_or-set_same, same_lists}
use Rattle.std.proofs.lemmas.Option.{slice_get_past, unwrap_or-slice_get}
use Rattle.l6_store.specs.declared.place_tag.PlaceTag.{PlaceTag}
use Rattle.l6_store.specs.declared.place_tag.PlaceTag.TheVariants.{Inner}
use Rattle.l6_store.specs.inner.ArenaLayout.{place_tag_at, tag_of}
use Rattle.l6_store.specs.inner.Tags.{size_by}
use Rattle.l6_store.specs.inner.Units.{AreUnitsUnused}

-- ---- lists that are taken over
-- so far the entries are the others, and after they are as they were
pub record AreTaken {A : Type 0} (was others now : List A) (first : ℕ) : Type 0 where
  pub long : length now ≡ length others
  pub taken : (at : ℕ) → at < first → slice_get now at ≡ slice_get others at
  pub rest : (at : ℕ) → first ≤ at → slice_get now at ≡ slice_get was at

pub taken_all : {A : Type 0} (was others now : List A) (first : ℕ) →
    AreTaken was others now first → length others ≤ first → now ≡ others
taken_all was others now first taken all =
    same_lists now others taken.long
    (λ at d below.
    sym (unwrap_or-slice_get now at d)
    ∙ ap (λ o. unwrap_or o d) (taken.taken at (omega (arith, below, taken.long, all)))
    ∙ unwrap_or-slice_get others at d)

-- after the last entry both have none
pub same_past : {A : Type 0} (was others : List A) (at : ℕ) → length was ≡ length others →
    length others ≤ at → slice_get was at ≡ slice_get others at
same_past was others at long past =
    slice_get_past was at (omega (arith, long, past)) ∙ sym (slice_get_past others at past)

-- and once a place is tagged: its unit is used from then on, unless nothing but a first place is tagged
-- with no block
pub set_unused : (place_tags : List PlaceTag) (used now : List Bool) (place : ℕ)
    (place_tag : PlaceTag) →
    AreUnitsUnused place_tags used → place < length place_tags →
    ((unit : ℕ) → get_or now unit false ≡ false → get_or used unit false ≡ false) →
    (get_or now (place / 1024) false ≡ false →
    (place % 1024 ≡ 0) × (size_by (tag_of place_tag) ≡ 0)) →
    AreUnitsUnused (set place_tags place place_tag) now
set_unused place_tags used now place place_tag unused within before here = record {
  inner = λ at following is.
      elim (cases_eq at place) as (λ _. place_tag_at (set place_tags place place_tag) at ≡ Inner) [
        | inl same ↦
            let first = here (ap (λ (p : ℕ). get_or now (p / 1024) false) (sym same) ∙ is) in
            absurd (omega (arith, following, same, first.0))
        | inr other ↦
            get_or-set_other place_tags place at place_tag Inner (λ same. absurd (other same))
            ∙ unused.inner at following (before (at / 1024) is)
      ];
  none = λ at is.
      elim (cases_eq at place)
      as (λ _. size_by (tag_of (place_tag_at (set place_tags place place_tag) at)) ≡ 0) [
        | inl same ↦
            ap (λ (m : PlaceTag). size_by (tag_of m))
            (ap (place_tag_at (set place_tags place place_tag)) same
            ∙ get_or-set_same place_tags place place_tag Inner within)
            ∙ (here (ap (λ (p : ℕ). get_or now (p / 1024) false) (sym same) ∙ is)).1
        | inr other ↦
            ap (λ (m : PlaceTag). size_by (tag_of m))
            (get_or-set_other place_tags place at place_tag Inner (λ same. absurd (other same)))
            ∙ unused.none at (before (at / 1024) is)
      ];
}

pub zero_by : (n : ℕ) → not (n == 0) ≡ false → n ≡ 0
zero_by n is = elim (cases_eq n 0) as (λ _. n ≡ 0) [
  | inl same ↦ same
  | inr other ↦ absurd (let both : true ≡ false = sym (ap not (ne_eqb n 0 other)) ∙ is in cc)
]

-- a flag that is set at a unit, where it was set or there is a reason
or_left : (one other : Bool) → (one || other) ≡ false → one ≡ false
or_left true other is = is
or_left false other is = refl

or_right : (one other : Bool) → (one || other) ≡ false → other ≡ false
or_right true other is = absurd (let both : true ≡ false = is in cc)
or_right false other is = is

pub flag_before : (used : List Bool) (unit : ℕ) (flag : Bool) → unit < length used → (k : ℕ) →
    get_or (set used unit (get_or used unit false || flag)) k false ≡ false →
    get_or used k false ≡ false
flag_before used unit flag within k is =
    let now : List Bool = set used unit (get_or used unit false || flag) in
    elim (cases_eq k unit) as (λ _. get_or used k false ≡ false) [
      | inl same ↦
          ap (λ (i : ℕ). get_or used i false) same
          ∙ or_left (get_or used unit false) flag
          (sym (get_or-set_same used unit (get_or used unit false || flag) false within)
          ∙ ap (λ (i : ℕ). get_or now i false) (sym same) ∙ is)
      | inr other ↦
          sym (get_or-set_other used unit k (get_or used unit false || flag) false
          (λ same. absurd (other same)))
          ∙ is
    ]

pub flag_here : (used : List Bool) (unit : ℕ) (flag : Bool) → unit < length used →
    get_or (set used unit (get_or used unit false || flag)) unit false ≡ false → flag ≡ false
flag_here used unit flag within is =
    or_right (get_or used unit false) flag
    (sym (get_or-set_same used unit (get_or used unit false || flag) false within) ∙ is)
