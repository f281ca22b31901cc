-- Targets that are added one after another.
use Rattle.std.proofs.Common.{◌≡◌, ℕ, ◌+◌, ◌<◌, List, ◌++◌, length, take, get_or, append_assoc, sym, ap, ◌∙◌}
use Rattle.std.specs.List.{flat_map}
use Rattle.l6_check.proofs.Flat.{flat_next}

-- what is made of one more element is added
pub targets_next : {X : Type 0} (f : X → List ℕ) (first before after : List ℕ) (xs : List X) (i : ℕ) (x : X) →
    i < length xs → x ≡ get_or xs i x → before ≡ first ++ flat_map f (take i xs) →
    after ≡ before ++ f x → after ≡ first ++ flat_map f (take (i + 1) xs)
targets_next f first before after xs i x within is so_far one =
    one ∙ ap (λ b. b ++ f x) so_far
    ∙ append_assoc first (flat_map f (take i xs)) (f x)
    ∙ sym (ap (λ l. first ++ l) (flat_next f xs i x within is))
