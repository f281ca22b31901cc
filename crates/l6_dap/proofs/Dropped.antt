-- What is left of a list from an index on, by the element at the index.
use Rattle.std.proofs.Common.{◌≡◌, ℕ, zero, suc, ◌+◌, List, [], ◌∷◌, drop, Some, None, refl, ap, ◌∙◌, arith}
use Rattle.std.specs.Prelude.{slice_get}

pub dropped_next : {A : Type 0} (xs : List A) (i : ℕ) (x : A) → slice_get xs i ≡ Some x →
    drop i xs ≡ x ∷ drop (i + 1) xs
dropped_next [] i x is = absurd (cc)
dropped_next (first ∷ xs) zero x is = let same : first ≡ x = cc in ap (λ it. it ∷ xs) same
dropped_next (first ∷ xs) (suc i) x is =
    let after : suc (i + 1) ≡ suc i + 1 = omega arith in
    dropped_next xs i x is ∙ ap (λ n. x ∷ drop n (first ∷ xs)) after

pub dropped_none : {A : Type 0} (xs : List A) (i : ℕ) → slice_get xs i ≡ None → drop i xs ≡ []
dropped_none [] zero is = refl
dropped_none [] (suc i) is = refl
dropped_none (first ∷ xs) zero is = absurd (cc)
dropped_none (first ∷ xs) (suc i) is = dropped_none xs i is
