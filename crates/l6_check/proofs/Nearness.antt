-- The first label that is nearly another one, looked for one after another.
use Rattle.std.proofs.Common.{◌≡◌, ℕ, ◌<◌, zero, suc, Bool, true, false, cond, List, [], ◌∷◌, length, take, Option, Some, None, arith, refl, ap, ◌∙◌}
use Rattle.std.specs.Prelude.{◌==◌, slice_get}
use Rattle.l6_group.specs.declared.label.Label.{Label}
use Rattle.l6_check.specs.Near.{are_near, first_given}

-- a text is nearly the empty one if it has one character
pub one_left : (one other : List ℕ) → length other < 1 → (length one == 1) ≡ are_near one other
one_left [] [] few = refl
one_left (first ∷ one) [] few = refl
one_left one (first ∷ other) few = absurd (omega (arith, few))

-- where neither this nor another is found, this one fails, and the other is none
failed : (holds : Bool) (one : Label) (other : Option Label) → cond holds (Some one) other ≡ None → holds ≡ false
failed true one other none = absurd (cc)
failed false one other none = refl

other_none : (holds : Bool) (one : Label) (other : Option Label) → cond holds (Some one) other ≡ None →
    other ≡ None
other_none true one other none = absurd (cc)
other_none false one other none = none

-- it is found at a place before which there is none
pub found_at : (given : List (Label × ℕ)) (label : Label) (place : ℕ) (entry : Label × ℕ) →
    slice_get given place ≡ Some entry → first_given (take place given) label ≡ None →
    are_near label entry.0 ≡ true → first_given given label ≡ Some entry.0
found_at [] label place entry at none near = absurd (cc)
found_at (first ∷ given) label zero entry at none near =
    let same : first ≡ entry = cc in
    ap (λ (e : Label × ℕ). cond (are_near label e.0) (Some e.0) (first_given given label)) same
    ∙ ap (λ b. cond b (Some entry.0) (first_given given label)) near
found_at (first ∷ given) label (suc place) entry at none near =
    let rest = first_given (take place given) label in
    ap (λ b. cond b (Some first.0) (first_given given label)) (failed (are_near label first.0) first.0 rest none)
    ∙ found_at given label place entry at (other_none (are_near label first.0) first.0 rest none) near

-- there is none up to the next place
pub none_next : (given : List (Label × ℕ)) (label : Label) (place : ℕ) (entry : Label × ℕ) →
    slice_get given place ≡ Some entry → first_given (take place given) label ≡ None →
    are_near label entry.0 ≡ false → first_given (take (suc place) given) label ≡ None
none_next [] label place entry at none far = absurd (cc)
none_next (first ∷ given) label zero entry at none far =
    let same : first ≡ entry = cc in
    ap (λ (e : Label × ℕ). cond (are_near label e.0) (Some e.0) None) same
    ∙ ap (λ b. cond b (Some entry.0) None) far
none_next (first ∷ given) label (suc place) entry at none far =
    let rest = first_given (take place given) label in
    ap (λ b. cond b (Some first.0) (first_given (take (suc place) given) label))
    (failed (are_near label first.0) first.0 rest none)
    ∙ none_next given label place entry at (other_none (are_near label first.0) first.0 rest none) far

-- past the last one there is none more
pub none_past : (given : List (Label × ℕ)) (label : Label) (place : ℕ) → slice_get given place ≡ None →
    first_given (take place given) label ≡ None → first_given (take (suc place) given) label ≡ None
none_past [] label place past none = refl
none_past (first ∷ given) label zero past none = absurd (cc)
none_past (first ∷ given) label (suc place) past none =
    let rest = first_given (take place given) label in
    ap (λ b. cond b (Some first.0) (first_given (take (suc place) given) label))
    (failed (are_near label first.0) first.0 rest none)
    ∙ none_past given label place past (other_none (are_near label first.0) first.0 rest none)
