-- Tests that are taken away.
use Rattle.std.proofs.Common.{◌≡◌, ℕ, zero, suc, ◌+◌, ◌<◌, ◌≤◌, List, [], ◌∷◌, Option, None, length, refl, ap, ◌∙◌, arith, inl, inr}
use Rattle.std.specs.Prelude.{replicate, slice_index_or, slice_set}
use Rattle.std.proofs.lemmas.Bool.{cases_lt}
use Rattle.std.proofs.lemmas.List.{get_or-set_other, get_or-set_same, get_or_past}

all_none : {X : Type 0} (list : List (Option X)) (n : ℕ) → length list ≡ n →
    ((k : ℕ) → slice_index_or list k None ≡ None) → list ≡ replicate n None
all_none [] zero same none = refl
all_none (first ∷ others) (suc n) same none =
    ap (λ f. f ∷ others) (none zero)
    ∙ ap (λ rest. None ∷ rest) (all_none others n (omega (arith, same)) (λ k. none (suc k)))
all_none [] (suc n) same none = absurd (omega (arith, same))
all_none (first ∷ others) zero same none = absurd (omega (arith, same))

-- none up to the end
pub forgotten : {X : Type 0} (list : List (Option X)) (index n : ℕ) → length list ≡ n → length list ≤ index →
    ((k : ℕ) → k < index → slice_index_or list k None ≡ None) → list ≡ replicate n None
forgotten list index n same end none =
    all_none list n same (λ k. elim (cases_lt k index) as (λ _. slice_index_or list k None ≡ None) [
      | inl before ↦ none k before
      | inr past ↦ get_or_past list k None (omega (arith, past, end))
    ])

-- one more
pub forgets : {X : Type 0} (list : List (Option X)) (index : ℕ) → index < length list →
    ((k : ℕ) → k < index → slice_index_or list k None ≡ None) → (k : ℕ) → k < index + 1 →
    slice_index_or (slice_set list index None) k None ≡ None
forgets list index within none k below = elim (cases_lt k index) as (λ _. slice_index_or (slice_set list index None) k None ≡ None) [
  | inl before ↦ get_or-set_other list index k None None (λ same. omega (arith, same, before)) ∙ none k before
  | inr not_before ↦
      (let same : k ≡ index = omega (arith, not_before, below) in
      ap (λ i. slice_index_or (slice_set list index None) i None) same
      ∙ get_or-set_same list index None None within)
]
