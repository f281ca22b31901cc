-- The place after one in a list, as a link has it, and how many places are left of a list.
use Rattle.std.proofs.Common.{◌≡◌, ◌≢◌, ℕ, suc, ◌+◌, ◌^◌, ◌<◌, ◌≤◌, Bool, true, false, ◌==◌, if◌then◌else◌, List, [], ◌∷◌, length, get_or, Option, Some, None, unwrap_or, refl, ap, sym, ◌∙◌, subst, arith, inl, inr}
use Rattle.std.proofs.lemmas.Bool.{cases_Bool, eq-eqb, ne_eqb, eqb-true}
use Rattle.l6_store.specs.Numerals.{place_bits}
use Rattle.l6_store.specs.Buddy.{has, first_of, first_or, next_in}
use Rattle.l6_store.specs.Links.{AreLinked}
use Rattle.l6_store.specs.inner.Chains.{after_in}
use Rattle.l6_store.specs.inner.ArenaLayout.{AreDistinct}
use Rattle.l6_store.proofs.Counts.{has_first, has_more}
use Rattle.l6_store.proofs.ListedPieces.{has_cases}
use Rattle.l6_store.proofs.PlaceLists.{AreWithin, within_rest, first_or_within, has_not}
use Rattle.l6_store.proofs.Chains.{after_of}

-- ---- the place after one
next_here : (place first : ℕ) (rest : List ℕ) → place ≡ first
    → next_in place (first ∷ rest) ≡ first_of rest
unfolding next_in
next_here place first rest same =
    ap (λ (b : Bool). if b then first_of rest else next_in place rest) (eq-eqb place first same)

next_later : (place first : ℕ) (rest : List ℕ) → place ≢ first
    → next_in place (first ∷ rest) ≡ next_in place rest
unfolding next_in
next_later place first rest other =
    ap (λ (b : Bool). if b then first_of rest else next_in place rest) (ne_eqb place first other)

-- of a place that is not in the list there is none
pub next_absent : (place : ℕ) (places : List ℕ) → has place places ≡ false
    → next_in place places ≡ None
unfolding next_in
next_absent place [] none = refl
next_absent place (first ∷ rest) none =
    let parts = has_not place first rest none in
    next_later place first rest parts.0 ∙ next_absent place rest parts.1

-- nor of one past all of them
pub next_past : (bound place : ℕ) (places : List ℕ) → AreWithin bound places → bound ≤ place
    → next_in place places ≡ None
next_past bound place places within past =
    elim (cases_Bool (has place places)) as (λ _. next_in place places ≡ None) [
      | inl is ↦ absurd (omega (arith, past, (within place is).1))
      | inr none ↦ next_absent place places none
    ]

-- a list without a first place is empty
pub none_first : (places : List ℕ) → first_of places ≡ None → places ≡ []
none_first [] none = refl
none_first (first ∷ rest) none = cc

pub some_first : (places : List ℕ) → first_of places ≢ None → places ≢ []
some_first places some empty = some (ap first_of empty)

first_or_of : (places : List ℕ) → first_or places 0 ≡ unwrap_or (first_of places) 0
first_or_of [] = refl
first_or_of (first ∷ rest) = refl

-- the link has it, or 0
pub next_linked : (words : List ℕ) (before place : ℕ) (places : List ℕ)
    → AreWithin (length words) places → length words ≤ 2 ^ place_bits
    → has place places ≡ true → AreLinked words before places 0
    → after_in (get_or words place 0) ≡ unwrap_or (next_in place places) 0
unfolding has
next_linked words before place [] within small is linked = cc
next_linked words before place (first ∷ rest) within small is linked =
    elim (cases_Bool (place == first))
    as (λ _. after_in (get_or words place 0) ≡ unwrap_or (next_in place (first ∷ rest)) 0) [
      | inl here ↦
          let same : place ≡ first = eqb-true place first here in
          let some = within first (has_first first rest) in
          ap (λ (p : ℕ). after_in (get_or words p 0)) same
          ∙ ap after_in linked.0
          ∙ after_of before (first_or rest 0)
          (omega (
            arith,
            small,
            first_or_within (length words) rest (omega (arith, some.1))
                (within_rest (length words) first rest within),
          ))
          ∙ first_or_of rest
          ∙ ap (λ (o : Option ℕ). unwrap_or o 0) (sym (next_here place first rest same))
      | inr other ↦
          elim (has_cases place first rest is)
          as (λ _. after_in (get_or words place 0) ≡ unwrap_or (next_in place (first ∷ rest)) 0) [
            | inl same ↦ (let not = other in let yes = eq-eqb place first same in cc)
            | inr later ↦
                next_linked words first place rest (within_rest (length words) first rest within)
                small later linked.1
                ∙ ap (λ (o : Option ℕ). unwrap_or o 0)
                (sym (next_later place first rest
                (λ same. (let not = other in let yes = eq-eqb place first same in cc))))
          ]
    ]

-- it is in the list, too
abbrev pub IsPlaceOf : List ℕ → Option ℕ → Type 0
IsPlaceOf places None = Unit {0}
IsPlaceOf places (Some place) = has place places ≡ true

pub first_is : (places : List ℕ) → IsPlaceOf places (first_of places)
first_is [] = tt
first_is (first ∷ rest) = has_first first rest

more_is : (first : ℕ) (rest : List ℕ) (found : Option ℕ) → IsPlaceOf rest found
    → IsPlaceOf (first ∷ rest) found
more_is first rest None is = tt
more_is first rest (Some place) is = has_more place first rest is

pub next_is : (place : ℕ) (places : List ℕ) → IsPlaceOf places (next_in place places)
unfolding next_in
next_is place [] = tt
next_is place (first ∷ rest) =
    elim (cases_Bool (place == first)) as (λ _. IsPlaceOf (first ∷ rest) (next_in place (first ∷ rest))) [
      | inl here ↦
          subst (IsPlaceOf (first ∷ rest)) (sym (next_here place first rest (eqb-true place first here)))
          (more_is first rest (first_of rest) (first_is rest))
      | inr other ↦
          subst (IsPlaceOf (first ∷ rest))
          (sym (ap (λ (b : Bool). if b then first_of rest else next_in place rest) other))
          (more_is first rest (next_in place rest) (next_is place rest))
    ]

-- 0 is no place of a list
pub next_none : (bound : ℕ) (places : List ℕ) (found : Option ℕ) → AreWithin bound places
    → IsPlaceOf places found → unwrap_or found 0 ≡ 0 → found ≡ None
next_none bound places None within is none = refl
next_none bound places (Some place) within is none = absurd (omega (arith, (within place is).0))

pub next_some : (found : Option ℕ) → unwrap_or found 0 ≢ 0 → Some (unwrap_or found 0) ≡ found
next_some None some = absurd (some refl)
next_some (Some place) some = refl

-- ---- how many places are left
unfoldable pub from_place : ℕ → List ℕ → List ℕ
from_place place [] = []
from_place place (first ∷ rest) = if place == first then first ∷ rest else from_place place rest

abbrev pub left : List ℕ → Option ℕ → ℕ
left places None = 0
left places (Some place) = length (from_place place places)

left_here : (first : ℕ) (rest : List ℕ) → left (first ∷ rest) (Some first) ≡ suc (length rest)
unfolding from_place
left_here first rest =
    ap (λ (b : Bool). length (if b then first ∷ rest else from_place first rest))
    (eq-eqb first first refl)

left_later : (first : ℕ) (rest : List ℕ) (found : Option ℕ) → has first rest ≡ false
    → IsPlaceOf rest found → left (first ∷ rest) found ≡ left rest found
unfolding from_place
left_later first rest None fresh is = refl
left_later first rest (Some place) fresh is =
    ap (λ (b : Bool). length (if b then first ∷ rest else from_place place rest))
    (ne_eqb place first
    (λ same. (let not = fresh in let there = ap (λ (p : ℕ). has p rest) (sym same) ∙ is in cc)))

pub left_first : (places : List ℕ) → left places (first_of places) ≡ length places
left_first [] = refl
left_first (first ∷ rest) = left_here first rest

pub left_next : (place : ℕ) (places : List ℕ) → AreDistinct places → has place places ≡ true
    → left places (Some place) ≡ suc (left places (next_in place places))
unfolding has
left_next place [] are is = cc
left_next place (first ∷ rest) are is =
    elim (has_cases place first rest is)
    as (λ _. left (first ∷ rest) (Some place) ≡ suc (left (first ∷ rest) (next_in place (first ∷ rest)))) [
      | inl same ↦
          ap (λ (p : ℕ). left (first ∷ rest) (Some p)) same
          ∙ left_here first rest
          ∙ ap suc (sym (left_first rest) ∙ sym (left_later first rest (first_of rest) are.0 (first_is rest))
          ∙ ap (left (first ∷ rest)) (sym (next_here place first rest same)))
      | inr later ↦
          let other : place ≢ first
          = λ same. (let not = are.0 in let there = ap (λ (p : ℕ). has p rest) (sym same) ∙ later in cc) in
          left_later first rest (Some place) are.0 later
          ∙ left_next place rest are.1 later
          ∙ ap suc (sym (left_later first rest (next_in place rest) are.0 (next_is place rest))
          ∙ ap (left (first ∷ rest)) (sym (next_later place first rest other)))
    ]

-- one more is counted
pub counted_more : (places : List ℕ) (count place : ℕ) (at next : Option ℕ) → AreDistinct places
    → at ≡ Some place → next ≡ next_in place places → count + left places at ≡ length places
    → IsPlaceOf places at
    → (count + 1 + left places next ≡ length places) × IsPlaceOf places next
    × (left places next < left places at)
counted_more places count place at next are here steps counted is =
    let there : has place places ≡ true = subst (IsPlaceOf places) here is in
    let one = left_next place places are there in
    let was = ap (left places) here in
    let now = ap (left places) steps in (
      omega (arith, counted, one, was, now),
      subst (IsPlaceOf places) (sym steps) (next_is place places),
      omega (arith, one, was, now),
    )
