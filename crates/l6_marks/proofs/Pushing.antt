-- Texts that are added one after another.
use Rattle.std.proofs.Common.{◌≡◌, ℕ, ◌+◌, ◌-◌, List, [], ◌∷◌, ◌++◌, length, Result, Ok, Err, OnOk, append_assoc, ap, refl, ◌∙◌, if◌then◌else◌, arith}
use Rattle.std.specs.Prelude.{is_ok}
use Rattle.std.proofs.lemmas.List.{length-append}

-- a text that is added to one that was added is added with it
pub text_on : (old first second : List ℕ) {mid new : List ℕ} → mid ≡ old ++ first → new ≡ mid ++ second →
    new ≡ old ++ (first ++ second)
text_on old first second so_far added =
    added ∙ ap (λ text. text ++ second) so_far ∙ append_assoc old first second

-- what follows from what holds if there is a value
pub on_ok : {X E : Type 0} {P Q : Type 0} (result : Result X E) → (P → Q) → OnOk result P → OnOk result Q
on_ok (Ok value) leads holds = leads holds
on_ok (Err error) leads holds = tt

-- what is added if there is a value
pub when_ok : {X E : Type 0} {new : List ℕ} (added kept : List ℕ) (result : Result X E) →
    new ≡ (if is_ok result then added else kept) → OnOk result (new ≡ added)
when_ok added kept (Ok value) is = is
when_ok added kept (Err error) is = tt

-- what was added is as long as the text has become longer
pub added_length : (old added : List ℕ) {new : List ℕ} → new ≡ old ++ added →
    length new - length old ≡ length added
added_length old added is =
    ap (λ text. length text - length old) is ∙ ap (λ n. n - length old) (length-append old added)
    ∙ add-sub (length old) (length added)
  where
    add-sub : (m n : ℕ) → (m + n) - m ≡ n
    add-sub m n = omega arith

-- nothing was added if the text is no longer
pub none_added : (old added : List ℕ) {new : List ℕ} → new ≡ old ++ added → length new ≡ length old →
    added ≡ []
none_added old [] is same = refl
none_added old (first ∷ others) is same =
    absurd (omega (arith, ap length is ∙ length-append old (first ∷ others), same))
