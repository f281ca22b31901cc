-- The blanks at the ends of columns in two parts.
use Rattle.std.proofs.Common.{◌≡◌, ℕ, ◌+◌, ◌≤◌, ◌<◌, List, [], ◌∷◌, ◌++◌, length, Bool, true, false, cond, refl, ap, ◌∙◌, arith}
use Rattle.std.specs.Prelude.{◌&&◌}
use Rattle.std.specs.List.{list_all}
use Rattle.l6_group.specs.Character.{is_blank}
use Rattle.l6_card.specs.Objection.{count_blanks, count_solid}
use Rattle.l6_card.proofs.Bodies.{no_solid}

some_in : (blank : Bool) (n m all : ℕ) → cond blank (n + 1) 0 < m + 1 → (n < m → all ≡ n) →
    cond blank (all + 1) 0 ≡ cond blank (n + 1) 0
some_in true n m all less later =
    let same = later (omega arith) in
    omega arith
some_in false n m all less later = refl

-- blanks that end in the first part
pub blanks_some : (front body : List ℕ) → count_blanks front < length front →
    count_blanks (front ++ body) ≡ count_blanks front
blanks_some [] body less = absurd (omega arith)
blanks_some (column ∷ front) body less =
    let few : cond (is_blank column) (count_blanks front + 1) 0 < length front + 1 =
    omega (arith, less) in
    some_in (is_blank column) (count_blanks front) (length front) (count_blanks (front ++ body)) few
    (blanks_some front body)

all_in : (blank : Bool) (n m all more : ℕ) → m + 1 ≤ cond blank (n + 1) 0 →
    (m ≤ n → all ≡ m + more) → cond blank (all + 1) 0 ≡ m + 1 + more
all_in true n m all more many later =
    let same = later (omega arith) in
    omega arith
all_in false n m all more many later = absurd (omega arith)

-- a first part of blanks
pub blanks_all : (front body : List ℕ) → length front ≤ count_blanks front →
    count_blanks (front ++ body) ≡ length front + count_blanks body
blanks_all [] body many = omega arith
blanks_all (column ∷ front) body many =
    let all : length front + 1 ≤ cond (is_blank column) (count_blanks front + 1) 0 =
    omega (arith, many) in
    let counted = all_in (is_blank column) (count_blanks front) (length front)
    (count_blanks (front ++ body)) (count_blanks body) all (blanks_all front body) in
    omega (arith, counted)

same_blank : (front body : List ℕ) → list_all is_blank body ≡ true →
    list_all is_blank (front ++ body) ≡ list_all is_blank front
same_blank [] body blank = blank
same_blank (column ∷ front) body blank =
    ap (λ b. is_blank column && b) (same_blank front body blank)

-- a second part of blanks
pub solid_front : (front body : List ℕ) → list_all is_blank body ≡ true →
    count_solid (front ++ body) ≡ count_solid front
solid_front [] body blank = no_solid body blank
solid_front (column ∷ front) body blank =
    ap (λ b. cond (is_blank column && b) 0 (count_solid (front ++ body) + 1))
    (same_blank front body blank)
    ∙ ap (λ n. cond (is_blank column && list_all is_blank front) 0 (n + 1))
    (solid_front front body blank)

and_false : (b : Bool) → (b && false) ≡ false
and_false true = refl
and_false false = refl

not_blank : (front body : List ℕ) → list_all is_blank body ≡ false →
    list_all is_blank (front ++ body) ≡ false
not_blank [] body some = some
not_blank (column ∷ front) body some =
    ap (λ b. is_blank column && b) (not_blank front body some) ∙ and_false (is_blank column)

-- a second part that is not blank
pub solid_body : (front body : List ℕ) → list_all is_blank body ≡ false →
    count_solid (front ++ body) ≡ length front + count_solid body
solid_body [] body some = omega arith
solid_body (column ∷ front) body some =
    let later = solid_body front body some in
    ap (λ b. cond b 0 (count_solid (front ++ body) + 1)) (not_blank (column ∷ front) body some)
    ∙ omega arith
