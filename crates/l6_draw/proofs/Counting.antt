-- How many elements pass a test, where another test lets more of them pass.
use Rattle.std.proofs.Common.{◌≡◌, ℕ, ◌<◌, ◌≤◌, Bool, true, false, cond, List, [], ◌∷◌, length, inl, inr, ◌⊎◌, refl, arith, ap, ◌∙◌, sym}
use Rattle.std.specs.List.{Contains, filter}
use Rattle.l6_draw.proofs.Members.{first_or_later, none_in}

-- a filter leaves no more
pub filter_short : (test : ℕ → Bool) (xs : List ℕ) → length (filter test xs) ≤ length xs
filter_short test [] = omega arith
filter_short test (x ∷ xs) =
    let rest = filter_short test xs in
    elim (test x) as (λ b. length (cond b (x ∷ filter test xs) (filter test xs)) ≤ length (x ∷ xs)) [
      | true ↦ omega arith
      | false ↦ omega arith
    ]

-- where it leaves as many, each element passes
pub all_pass : (test : ℕ → Bool) (xs : List ℕ) → length xs ≤ length (filter test xs) → (x : ℕ)
    → Contains xs x → test x ≡ true
all_pass test [] many x is = absurd (none_in x is)
all_pass test (y ∷ xs) many x is =
    let short = filter_short test xs in
    elim (test y) as (λ b. test y ≡ b
    → length (y ∷ xs) ≤ length (cond b (y ∷ filter test xs) (filter test xs)) → test x ≡ true) [
      | true ↦ λ passes enough.
          elim (first_or_later y x xs is) as (λ _. test x ≡ true) [
            | inl same ↦ ap test (sym same) ∙ passes
            | inr later ↦ all_pass test xs (omega arith) x later
          ]
      | false ↦ λ fails enough. absurd (omega arith)
    ] refl many

-- a test that lets no less pass leaves no less
pub more_pass : (test other : ℕ → Bool) → ((x : ℕ) → test x ≡ true → other x ≡ true) → (xs : List ℕ)
    → length (filter test xs) ≤ length (filter other xs)
more_pass test other more [] = omega arith
more_pass test other more (x ∷ xs) =
    let rest = more_pass test other more xs in
    elim (test x) as (λ b. test x ≡ b → length (cond b (x ∷ filter test xs) (filter test xs))
    ≤ length (filter other (x ∷ xs))) [
      | true ↦ λ passes.
          elim (other x) as (λ b. other x ≡ b → length (x ∷ filter test xs)
          ≤ length (cond b (x ∷ filter other xs) (filter other xs))) [
            | true ↦ λ _. omega arith
            | false ↦ λ fails. (let passed = more x passes in cc)
          ] refl
      | false ↦ λ _.
          elim (other x) as (λ b. length (filter test xs)
          ≤ length (cond b (x ∷ filter other xs) (filter other xs))) [
            | true ↦ omega arith
            | false ↦ rest
          ]
    ] refl

-- it leaves more, or lets nothing further pass: by what the tests say of the first element
abbrev NoneFurther : (test other : ℕ → Bool) → List ℕ → Type 0
NoneFurther test other xs = (x : ℕ) → Contains xs x → other x ≡ true → test x ≡ true

none_by : (test other : ℕ → Bool) (y : ℕ) (xs : List ℕ) → (other y ≡ true → test y ≡ true)
    → NoneFurther test other xs → NoneFurther test other (y ∷ xs)
none_by test other y xs first rest x is passes =
    elim (first_or_later y x xs is) as (λ _. test x ≡ true) [
      | inl same ↦ ap test (sym same) ∙ first (ap other same ∙ passes)
      | inr later ↦ rest x later passes
    ]

by_first : (test other : ℕ → Bool) (y : ℕ) (xs : List ℕ) (one two : Bool) → test y ≡ one
    → other y ≡ two → (one ≡ true → two ≡ true)
    → length (filter test xs) ≤ length (filter other xs)
    → NoneFurther test other xs ⊎ (length (filter test xs) < length (filter other xs))
    → NoneFurther test other (y ∷ xs)
    ⊎ (length (cond one (y ∷ filter test xs) (filter test xs))
    < length (cond two (y ∷ filter other xs) (filter other xs)))
by_first test other y xs one false is_one is_two more no_less (inl none) =
    inl (none_by test other y xs (λ passes. let fails = is_two in cc) none)
by_first test other y xs true true is_one is_two more no_less (inl none) =
    inl (none_by test other y xs (λ _. is_one) none)
by_first test other y xs false true is_one is_two more no_less (inl none) = inr (omega arith)
by_first test other y xs true true is_one is_two more no_less (inr less) = inr (omega arith)
by_first test other y xs false true is_one is_two more no_less (inr less) = inr (omega arith)
by_first test other y xs false false is_one is_two more no_less (inr less) = inr less
by_first test other y xs true false is_one is_two more no_less (inr less) =
    (let wrong = more refl in cc)

pub more_or_same : (test other : ℕ → Bool) → ((x : ℕ) → test x ≡ true → other x ≡ true)
    → (xs : List ℕ)
    → ((x : ℕ) → Contains xs x → other x ≡ true → test x ≡ true)
    ⊎ (length (filter test xs) < length (filter other xs))
more_or_same test other more [] = inl (λ x is. absurd (none_in x is))
more_or_same test other more (y ∷ xs) =
    by_first test other y xs (test y) (other y) refl refl (more y) (more_pass test other more xs)
    (more_or_same test other more xs)
