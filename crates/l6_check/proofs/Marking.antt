-- How marks answer which numbers were marked.
use Rattle.std.proofs.Common.{◌≡◌, ℕ, ◌+◌, ◌<◌, ◌≤◌, Bool, true, false, eqb, ltb, List, [], ◌∷◌, ◌++◌, length, take, take_all, get_or, set, replicate, add-one, refl, sym, ap, ◌∙◌, arith}
use Rattle.std.specs.Prelude.{◌||◌}
use Rattle.std.specs.List.{flat_map, list_all, list_any}
use Rattle.std.proofs.Math.Bool.{or-false, or-true, or_assoc}
use Rattle.std.proofs.lemmas.Bool.{and_parts, eqb-true, eqb-false, ltb-true, ltb-false}
use Rattle.std.proofs.lemmas.List.{length-set, get_or-set_same, get_or-set_other, get_or-replicate, get_or_past, length-replicate}
use Rattle.std.proofs.Math.Seq.{take-suc}
use Rattle.std.proofs.lemmas.List.{take-append-le}
use Rattle.l6_prog.specs.Target.{is_below}
use Rattle.l6_check.specs.Ways.{is_number}
use Rattle.l6_check.specs.inner.Marks.{marked, is_marked, AreMarks}
use Rattle.l6_check.proofs.Flat.{flat_next}

-- numbers are marked after others
pub marked_append : (marks : List Bool) (numbers more : List ℕ) →
    marked marks (numbers ++ more) ≡ marked (marked marks numbers) more
marked_append marks [] more = refl
marked_append marks (number ∷ numbers) more = marked_append (set marks number true) numbers more

-- what is made of one more element is marked
pub marks_next : {X : Type 0} (f : X → List ℕ) (marks before after : List Bool) (xs : List X) (i : ℕ)
    (x : X) → i < length xs → x ≡ get_or xs i x → before ≡ marked marks (flat_map f (take i xs)) →
    after ≡ marked before (f x) → after ≡ marked marks (flat_map f (take (i + 1) xs))
marks_next f marks before after xs i x within is so_far one =
    one ∙ ap (λ m. marked m (f x)) so_far
    ∙ sym (marked_append marks (flat_map f (take i xs)) (f x))
    ∙ ap (marked marks) (sym (flat_next f xs i x within is))

-- one more number is marked
pub number_next : (marks before after : List Bool) (xs : List ℕ) (i x : ℕ) → i < length xs →
    x ≡ get_or xs i x → before ≡ marked marks (take i xs) → after ≡ marked before (x ∷ []) →
    after ≡ marked marks (take (i + 1) xs)
number_next marks before after xs i x within is so_far one =
    one ∙ ap (λ m. marked m (x ∷ [])) so_far
    ∙ sym (marked_append marks (take i xs) (x ∷ []))
    ∙ ap (marked marks) (ap (λ y. take i xs ++ y ∷ []) is ∙ sym (take-suc xs i x within)
    ∙ sym (ap (λ n. take n xs) (add-one i)))

-- a list that is written over all of another one
pub written : (count : ℕ) (new old : List Bool) → length new ≡ count → take count (new ++ old) ≡ new
written count new old long =
    take-append-le count new old (omega (arith, long)) ∙ take_all count new (omega (arith, long))

pub length_marked : (marks : List Bool) (numbers : List ℕ) →
    length (marked marks numbers) ≡ length marks
length_marked marks [] = refl
length_marked marks (number ∷ numbers) =
    length_marked (set marks number true) numbers ∙ length-set marks number true

-- one more number is marked
marked_one : (marks : List Bool) (number one : ℕ) (same : Bool) → number < length marks →
    eqb one number ≡ same →
    get_or (set marks one true) number false ≡ (get_or marks number false || same)
marked_one marks number one true within is =
    let equal = eqb-true one number is in
    ap (λ n. get_or (set marks n true) number false) equal
    ∙ get_or-set_same marks number true false within
    ∙ sym (or-true (get_or marks number false))
marked_one marks number one false within is =
    get_or-set_other marks one number true false (λ equal. eqb-false one number is (sym equal))
    ∙ sym (or-false (get_or marks number false))

-- a number that has a place is marked if it was before, or if it is one of the numbers
marked_at : (marks : List Bool) (numbers : List ℕ) (number : ℕ) → number < length marks →
    get_or (marked marks numbers) number false
    ≡ (get_or marks number false || list_any (is_number number) numbers)
marked_at marks [] number within = sym (or-false (get_or marks number false))
marked_at marks (one ∷ numbers) number within =
    let still : number < length (set marks one true) = omega (arith, length-set marks one true, within) in
    marked_at (set marks one true) numbers number still
    ∙ ap (λ b. b || list_any (is_number number) numbers)
    (marked_one marks number one (eqb one number) within refl)
    ∙ or_assoc (get_or marks number false) (eqb one number) (list_any (is_number number) numbers)

-- a number that has a place among fresh marks is marked if it is one of the numbers
pub fresh_marked : (count : ℕ) (numbers : List ℕ) (number : ℕ) → number < count →
    is_marked (marked (replicate count false) numbers) number ≡ list_any (is_number number) numbers
fresh_marked count numbers number within =
    let room : number < length (replicate count false) = omega (arith, length-replicate count false, within) in
    marked_at (replicate count false) numbers number room
    ∙ ap (λ b. b || list_any (is_number number) numbers) (get_or-replicate count number false false within)

-- no number from a bound on is one of numbers below it
none_past : (count : ℕ) (numbers : List ℕ) (number : ℕ) → list_all (is_below count) numbers ≡ true →
    count ≤ number → list_any (is_number number) numbers ≡ false
none_past count [] number below past = refl
none_past count (one ∷ numbers) number below past =
    let parts = and_parts (ltb one count) (list_all (is_below count) numbers) below in
    let less : one < count = ltb-true one count parts.0 in
    let other : eqb one number ≡ false = grind arith in
    ap (λ b. b || list_any (is_number number) numbers) other
    ∙ none_past count numbers number parts.1 past

marks_at : (count : ℕ) (numbers : List ℕ) → list_all (is_below count) numbers ≡ true →
    (number : ℕ) (within : Bool) → ltb number count ≡ within →
    is_marked (marked (replicate count false) numbers) number ≡ list_any (is_number number) numbers
marks_at count numbers below number true is = fresh_marked count numbers number (ltb-true number count is)
marks_at count numbers below number false is =
    let past = ltb-false number count is in
    let all = marked (replicate count false) numbers in
    let short : length all ≤ number =
    omega (arith, length_marked (replicate count false) numbers, length-replicate count false, past) in
    get_or_past all number false short ∙ sym (none_past count numbers number below past)

-- fresh marks, marked with numbers that all have a place, are those of the numbers
pub are_marks : (count : ℕ) (numbers : List ℕ) → list_all (is_below count) numbers ≡ true →
    AreMarks numbers (marked (replicate count false) numbers)
are_marks count numbers below number =
    marks_at count numbers below number (ltb number count) refl
