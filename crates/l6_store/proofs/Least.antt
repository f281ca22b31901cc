-- The least number that passes a test, and tests of all numbers below a bound.
use Rattle.std.proofs.Common.{◌≡◌, ℕ, zero, suc, ◌<◌, Bool, true, false, ◌&&◌, Option, Some, None, if◌then◌else◌, refl, ap, ◌∙◌, arith, inl, inr, ◌⊎◌}
use Rattle.std.proofs.lemmas.Bool.{cases_lt}
use Rattle.l6_store.specs.Scan.{all_below}
use Rattle.l6_store.specs.Least.{least, or_else}

pub and_both : (a b : Bool) → a && b ≡ true → (a ≡ true) × (b ≡ true)
and_both true b both = (refl, both)
and_both false b both = cc

-- below a bound that is one more, a number is the bound or below it
last_or_below : (k bound : ℕ) → k < suc bound → (k < bound) ⊎ (k ≡ bound)
last_or_below k bound below =
    elim (cases_lt k bound) as (λ _. (k < bound) ⊎ (k ≡ bound)) [
      | inl less ↦ inl less
      | inr not_less ↦ inr (omega arith)
    ]

pub all_below_holds : (bound : ℕ) (test : ℕ → Bool) → all_below bound test ≡ true → (k : ℕ)
    → k < bound → test k ≡ true
unfolding all_below
all_below_holds zero test all k below = absurd (omega arith)
all_below_holds (suc bound) test all k below =
    let both = and_both (test bound) (all_below bound test) all in
    elim (last_or_below k bound below) as (λ _. test k ≡ true) [
      | inl less ↦ all_below_holds bound test both.1 k less
      | inr is ↦ ap test is ∙ both.0
    ]

pub all_below_made : (bound : ℕ) (test : ℕ → Bool) → ((k : ℕ) → k < bound → test k ≡ true)
    → all_below bound test ≡ true
unfolding all_below
all_below_made zero test each = refl
all_below_made (suc bound) test each =
    ap (λ b. b && all_below bound test) (each bound (omega arith))
    ∙ all_below_made bound test (λ k below. each k (omega arith))

-- what an answer says: the number passes and no lower one does, or none below the bound passes
unfoldable pub Answers : ℕ → (ℕ → Bool) → Option ℕ → Type 0
Answers bound test (Some n) = (n < bound) × (test n ≡ true) × ((k : ℕ) → k < n → test k ≡ false)
Answers bound test None = (k : ℕ) → k < bound → test k ≡ false

none_more : (bound : ℕ) (test : ℕ → Bool) (last : Bool) → test bound ≡ last
    → ((k : ℕ) → k < bound → test k ≡ false)
    → Answers (suc bound) test (if last then Some bound else None)
unfolding Answers
none_more bound test true is none = (omega arith, is, none)
none_more bound test false is none = λ k below.
    elim (last_or_below k bound below)
    as (λ _. test k ≡ false) [ inl less ↦ none k less | inr same ↦ ap test same ∙ is ]

more : (bound : ℕ) (test : ℕ → Bool) (answer : Option ℕ) → Answers bound test answer
    → Answers (suc bound) test (or_else answer (if test bound then Some bound else None))
unfolding Answers
more bound test (Some n) is = (omega (arith, is.0), is.1, is.2)
more bound test None none = none_more bound test (test bound) refl none

pub least_answers : (bound : ℕ) (test : ℕ → Bool) → Answers bound test (least bound test)
unfolding least Answers
least_answers zero test = λ k below. absurd (omega arith)
least_answers (suc bound) test = more bound test (least bound test) (least_answers bound test)

-- an answer is the only one
pub answers_alone : (bound : ℕ) (test : ℕ → Bool) (one other : Option ℕ) → Answers bound test one
    → Answers bound test other → one ≡ other
unfolding Answers
answers_alone bound test (Some n) (Some m) one other =
    elim (cases_lt n m) as (λ _. Some n ≡ Some m) [
      | inl less ↦ (let wrong = other.2 n less in let right = one.1 in cc)
      | inr not_less ↦ elim (cases_lt m n) as (λ _. Some n ≡ Some m) [
        | inl less ↦ (let wrong = one.2 m less in let right = other.1 in cc)
        | inr same ↦ ap (λ (k : ℕ). Some k) (omega arith)
      ]
    ]
answers_alone bound test (Some n) None one none =
    let wrong = none n one.0 in let right = one.1 in cc
answers_alone bound test None (Some n) none one =
    let wrong = none n one.0 in let right = one.1 in cc
answers_alone bound test None None one other = refl
