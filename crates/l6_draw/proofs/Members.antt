-- What is in a list, by tests and by elements.
use Rattle.std.proofs.Common.{◌≡◌, ℕ, zero, suc, ◌<◌, Bool, true, false, ◌||◌, ◌==◌, List, [], ◌∷◌, length, get_or, cond, inl, inr, ◌⊎◌, refl, arith, eq-eqb, ap, ◌∙◌, sym, subst}
use Rattle.std.proofs.lemmas.Bool.{or_cases, or_left, or_right, eqb-true}
use Rattle.std.specs.List.{Contains, filter, list_any}

pub first_in : (x : ℕ) (xs : List ℕ) → Contains (x ∷ xs) x
first_in x xs = (0, omega arith, refl)

pub later_in : (y x : ℕ) (xs : List ℕ) → Contains xs x → Contains (y ∷ xs) x
later_in y x xs is = (suc is.0, (let below = is.1 in omega arith), is.2)

by_index : (y x : ℕ) (xs : List ℕ) (k : ℕ) → k < length (y ∷ xs) → get_or (y ∷ xs) k x ≡ x
    → (y ≡ x) ⊎ Contains xs x
by_index y x xs zero below is = inl is
by_index y x xs (suc k) below is = inr (k, omega arith, is)

pub first_or_later : (y x : ℕ) (xs : List ℕ) → Contains (y ∷ xs) x → (y ≡ x) ⊎ Contains xs x
first_or_later y x xs is = by_index y x xs is.0 is.1 is.2

pub none_in : (x : ℕ) → Contains [] x → ⊥
none_in x is = (let below = is.1 in omega arith)

-- a test that an element passes
pub any_made : (test : ℕ → Bool) (xs : List ℕ) (x : ℕ) → Contains xs x → test x ≡ true
    → list_any test xs ≡ true
any_made test [] x is passes = absurd (none_in x is)
any_made test (y ∷ xs) x is passes =
    elim (first_or_later y x xs is) as (λ _. (test y || list_any test xs) ≡ true) [
      | inl same ↦ or_left (test y) (list_any test xs) (ap test same ∙ passes)
      | inr later ↦ or_right (test y) (list_any test xs) (any_made test xs x later passes)
    ]

pub any_gives : (test : ℕ → Bool) (xs : List ℕ) → list_any test xs ≡ true
    → (x : ℕ) × Contains xs x × (test x ≡ true)
any_gives test [] passes = absurd (cc)
any_gives test (y ∷ xs) passes =
    elim (or_cases (test y) (list_any test xs) passes)
    as (λ _. (x : ℕ) × Contains (y ∷ xs) x × (test x ≡ true)) [
      | inl here ↦ (y, first_in y xs, here)
      | inr later ↦ (let found =
          any_gives test xs later in (found.0, later_in y found.0 xs found.1, found.2))
    ]

pub any_held : (xs : List ℕ) (x : ℕ) → Contains xs x → list_any (λ held. held == x) xs ≡ true
any_held xs x is = any_made (λ held. held == x) xs x is (eq-eqb x x refl)

pub held_any : (xs : List ℕ) (x : ℕ) → list_any (λ held. held == x) xs ≡ true → Contains xs x
held_any xs x passes =
    let found = any_gives (λ held. held == x) xs passes in
    subst (λ (y : ℕ). Contains xs y) (eqb-true found.0 x found.2) found.1

-- what a filter keeps
pub filter_keeps : (test : ℕ → Bool) (xs : List ℕ) (x : ℕ) → Contains xs x → test x ≡ true
    → Contains (filter test xs) x
filter_keeps test [] x is passes = is
filter_keeps test (y ∷ xs) x is passes =
    elim (test y) as (λ b. test y ≡ b → Contains (cond b (y ∷ filter test xs) (filter test xs)) x) [
      | true ↦ λ _.
          elim (first_or_later y x xs is) as (λ _. Contains (y ∷ filter test xs) x) [
            | inl same ↦ subst (λ (z : ℕ). Contains (y ∷ filter test xs) z) same
                (first_in y (filter test xs))
            | inr later ↦ later_in y x (filter test xs) (filter_keeps test xs x later passes)
          ]
      | false ↦ λ fails.
          elim (first_or_later y x xs is) as (λ _. Contains (filter test xs) x) [
            | inl same ↦ (let passed = ap test same ∙ passes in cc)
            | inr later ↦ filter_keeps test xs x later passes
          ]
    ] refl

pub filter_has : (test : ℕ → Bool) (xs : List ℕ) (x : ℕ) → Contains (filter test xs) x
    → Contains xs x × (test x ≡ true)
filter_has test [] x is = absurd (none_in x is)
filter_has test (y ∷ xs) x is =
    elim (test y) as (λ b. test y ≡ b → Contains (cond b (y ∷ filter test xs) (filter test xs)) x
    → Contains (y ∷ xs) x × (test x ≡ true)) [
      | true ↦ λ passes inside.
          elim (first_or_later y x (filter test xs) inside) as
          (λ _. Contains (y ∷ xs) x × (test x ≡ true)) [
            | inl same ↦ (
              subst (λ (z : ℕ). Contains (y ∷ xs) z) same (first_in y xs),
              ap test (sym same)
                  ∙ passes,
            )
            | inr later ↦ (let rest = filter_has test xs x later in (later_in y x xs rest.0, rest.1))
          ]
      | false ↦ λ _ inside. (let rest = filter_has test xs x inside in (later_in y x xs rest.0, rest.1))
    ] refl is
