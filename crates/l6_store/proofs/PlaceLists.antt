-- Lists of places: what is in them, their parts, and what is left once a place was taken out.
use Rattle.std.proofs.Common.{◌≡◌, ◌≢◌, ℕ, ◌<◌, ◌≤◌, Bool, true, false, ◌||◌, ◌==◌, if◌then◌else◌, List, [], ◌∷◌, ◌++◌, refl, ap, sym, ◌∙◌, subst, inl, inr}
use Rattle.std.proofs.lemmas.Bool.{cases_Bool, ne_eqb, eqb-true}
use Rattle.l6_store.specs.Buddy.{has, without, first_or}
use Rattle.l6_store.specs.inner.ArenaLayout.{AreDistinct}
use Rattle.l6_store.proofs.Counts.{has_first, has_more}
use Rattle.l6_store.proofs.ListedPieces.{has_cases, has_without}

pub has_not : (place first : ℕ) (rest : List ℕ) → has place (first ∷ rest) ≡ false
    → (place ≢ first) × (has place rest ≡ false)
has_not place first rest none = (
  λ same. (let here = ap (λ (p : ℕ). has p (first ∷ rest)) same ∙ has_first first rest in cc),
  elim (cases_Bool (has place rest)) as (λ _. has place rest ≡ false) [
    | inl later ↦ (let there = has_more place first rest later in cc)
    | inr absent ↦ absent
  ],
)

pub not_has : (place first : ℕ) (rest : List ℕ) → place ≢ first → has place rest ≡ false
    → has place (first ∷ rest) ≡ false
unfolding has
not_has place first rest other none =
    ap (λ (b : Bool). b || has place rest) (ne_eqb place first other) ∙ none

pub has_front : (place : ℕ) (front back : List ℕ) → has place front ≡ true
    → has place (front ++ back) ≡ true
unfolding has
has_front place [] back is = cc
has_front place (first ∷ front) back is =
    elim (has_cases place first front is) as (λ _. has place ((first ∷ front) ++ back) ≡ true) [
      | inl here ↦ ap (λ (p : ℕ). has p (first ∷ (front ++ back))) here
          ∙ has_first first (front ++ back)
      | inr later ↦ has_more place first (front ++ back) (has_front place front back later)
    ]

pub has_back : (place : ℕ) (front back : List ℕ) → has place back ≡ true
    → has place (front ++ back) ≡ true
has_back place [] back is = is
has_back place (first ∷ front) back is =
    has_more place first (front ++ back) (has_back place front back is)

abbrev pub last_or : List ℕ → ℕ → ℕ
last_or [] before = before
last_or (place ∷ places) before = last_or places place

pub has_last_or : (places : List ℕ) (first : ℕ) → has (last_or places first) (first ∷ places) ≡ true
has_last_or [] first = has_first first []
has_last_or (next ∷ places) first =
    has_more (last_or places next) first (next ∷ places) (has_last_or places next)

-- places of a store: not 0, and below a bound
abbrev pub AreWithin : ℕ → List ℕ → Type 0
AreWithin bound places = (place : ℕ) → has place places ≡ true → (1 ≤ place) × (place < bound)

pub within_rest : (bound first : ℕ) (rest : List ℕ) → AreWithin bound (first ∷ rest)
    → AreWithin bound rest
within_rest bound first rest are place is = are place (has_more place first rest is)

pub first_or_within : (bound : ℕ) (places : List ℕ) → 0 < bound → AreWithin bound places
    → first_or places 0 < bound
first_or_within bound [] some are = some
first_or_within bound (first ∷ rest) some are = (are first (has_first first rest)).1

pub distinct_without : (place : ℕ) (places : List ℕ) → AreDistinct places
    → AreDistinct (without place places)
unfolding without
distinct_without place [] are = tt
distinct_without place (first ∷ rest) are =
    elim (cases_Bool (place == first)) as (λ _. AreDistinct (without place (first ∷ rest))) [
      | inl same ↦
          subst (λ (b : Bool). AreDistinct (if b then rest else first ∷ without place rest))
          (sym same) are.1
      | inr other ↦
          subst (λ (b : Bool). AreDistinct (if b then rest else first ∷ without place rest))
          (sym other) (
            elim (cases_Bool (has first (without place rest)))
                as (λ _. has first (without place rest) ≡ false) [
                  | inl is ↦ (let was = has_without first place rest is in let not = are.0 in cc)
                  | inr absent ↦ absent
                ],
            distinct_without place rest are.1,
          )
    ]

-- a place that was taken out of a list of distinct ones is gone, ..
pub without_gone : (place : ℕ) (places : List ℕ) → AreDistinct places
    → has place (without place places) ≡ false
unfolding without has
without_gone place [] are = refl
without_gone place (first ∷ rest) are =
    elim (cases_Bool (place == first)) as (λ _. has place (without place (first ∷ rest)) ≡ false) [
      | inl same ↦
          ap (λ (b : Bool). has place (if b then rest else first ∷ without place rest)) same
          ∙ ap (λ (p : ℕ). has p rest) (eqb-true place first same) ∙ are.0
      | inr other ↦
          ap (λ (b : Bool). has place (if b then rest else first ∷ without place rest)) other
          ∙ ap (λ (b : Bool). b || has place (without place rest)) other
          ∙ without_gone place rest are.1
    ]

-- .. and the others are not
pub without_other : (place gone : ℕ) (places : List ℕ) → place ≢ gone → has place places ≡ true
    → has place (without gone places) ≡ true
unfolding without
without_other place gone [] other is = is
without_other place gone (first ∷ rest) other is =
    elim (cases_Bool (gone == first)) as (λ _. has place (without gone (first ∷ rest)) ≡ true) [
      | inl same ↦
          ap (λ (b : Bool). has place (if b then rest else first ∷ without gone rest)) same
          ∙ elim (has_cases place first rest is) as (λ _. has place rest ≡ true) [
            | inl here ↦ absurd (other (here ∙ sym (eqb-true gone first same)))
            | inr later ↦ later
          ]
      | inr differs ↦
          ap (λ (b : Bool). has place (if b then rest else first ∷ without gone rest)) differs
          ∙ elim (has_cases place first rest is)
          as (λ _. has place (first ∷ without gone rest) ≡ true) [
            | inl here ↦ ap (λ (p : ℕ). has p (first ∷ without gone rest)) here
                ∙ has_first first (without gone rest)
            | inr later ↦ has_more place first (without gone rest)
                (without_other place gone rest other later)
          ]
    ]

-- where a place is in a list: what is before it and what is after it
pub record Split (place : ℕ) (places : List ℕ) : Type 0 where
  pub front : List ℕ
  pub back : List ℕ
  pub is : places ≡ front ++ place ∷ back
  pub left : without place places ≡ front ++ back

pub split : (place : ℕ) (places : List ℕ) → has place places ≡ true → Split place places
unfolding without has
split place [] is = cc
split place (first ∷ rest) is =
    elim (cases_Bool (place == first)) as (λ _. Split place (first ∷ rest)) [
      | inl same ↦
          record {
            front = [];
            back = rest;
            is = ap (λ (p : ℕ). p ∷ rest) (sym (eqb-true place first same));
            left = ap (λ (b : Bool). if b then rest else first ∷ without place rest) same;
          }
      | inr other ↦
          let later : has place rest ≡ true
          = sym (ap (λ (b : Bool). b || has place rest) other) ∙ is in
          let parts = split place rest later in
          record {
            front = first ∷ parts.front;
            back = parts.back;
            is = ap (λ (ps : List ℕ). first ∷ ps) parts.is;
            left = ap (λ (b : Bool). if b then rest else first ∷ without place rest) other
                ∙ ap (λ (ps : List ℕ). first ∷ ps) parts.left;
          }
    ]

-- the parts of a list of distinct places
pub distinct_front : (front back : List ℕ) → AreDistinct (front ++ back) → AreDistinct front
distinct_front [] back are = tt
distinct_front (first ∷ front) back are = (
  elim (cases_Bool (has first front)) as (λ _. has first front ≡ false) [
    | inl is ↦ (let there = has_front first front back is in let not = are.0 in cc)
    | inr absent ↦ absent
  ],
  distinct_front front back are.1,
)

pub distinct_back : (front back : List ℕ) → AreDistinct (front ++ back) → AreDistinct back
distinct_back [] back are = are
distinct_back (first ∷ front) back are = distinct_back front back are.1

pub distinct_apart : (front back : List ℕ) (place : ℕ) → AreDistinct (front ++ back)
    → has place front ≡ true → has place back ≡ true → ⊥
unfolding has
distinct_apart [] back place are in_front in_back = cc
distinct_apart (first ∷ front) back place are in_front in_back =
    elim (has_cases place first front in_front) as (λ _. ⊥) [
      | inl here ↦
          let there = has_back first front back (ap (λ (p : ℕ). has p back) (sym here) ∙ in_back) in
          let not = are.0 in
          cc
      | inr later ↦ distinct_apart front back place are.1 later in_back
    ]
