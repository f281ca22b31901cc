-- The first part of a deck, and the others.
use Rattle.std.proofs.Common.{◌≡◌, ℕ, ◌+◌, ◌≤◌, ◌∙◌, Bool, true, false, cond, zero, suc, List, [], ◌∷◌, ◌++◌, length, take, drop, arith, append_assoc, refl, sym, ap}
use native.Mathlib.Numerals.{unary_clauses}
use Rattle.std.proofs.lemmas.List.{length-map}
use Rattle.std.proofs.lemmas.List.Filters.{length-filter_both}
use Rattle.std.specs.List.{filter}
use Rattle.std.specs.Prelude.{not}
use Rattle.l6_word.specs.Code.{character_of}
use Rattle.l6_group.specs.Character.{is_blank, spelled}
use Rattle.l6_card.specs.declared.objection.Objection.{Objection}
use Rattle.l6_check.specs.Statements.{belongs, further_count, most_of_statement, objections_from, objections_in, onto_part, parts_of}

-- no more characters are spelled than there are columns
pub spelled_short : (columns : List ℕ) → length (spelled columns) ≤ length columns
spelled_short columns =
    let solid : ℕ → Bool = λ given. not (is_blank given) in
    let all = length-filter_both solid (λ given. not (solid given)) (λ given. refl) columns in
    omega (arith, length-map (filter solid columns) character_of, all)

-- the part that a line begins, and what follows it
abbrev split_after : List ℕ → List (List ℕ) → ℕ → List (List (List ℕ))
split_after line lines count = (line ∷ take count lines) ∷ parts_of (drop count lines)

joined : (holds : Bool) (line next : List ℕ) (more : List (List ℕ)) (count : ℕ) →
    parts_of (next ∷ more) ≡ split_after next more count →
    cond holds ((line ∷ next ∷ take count more) ∷ parts_of (drop count more))
    ((line ∷ []) ∷ split_after next more count)
    ≡ split_after line (next ∷ more) (cond holds (count + 1) 0)
joined true line next more count split =
    simp unary_clauses refl
joined false line next more count split = ap (λ parts. (line ∷ []) ∷ parts) (sym split)

-- the first part of lines is the first line with those that belong to it
pub first_part : (line : List ℕ) (lines : List (List ℕ)) →
    parts_of (line ∷ lines) ≡ split_after line lines (further_count lines)
first_part line [] = refl
first_part line (next ∷ more) =
    let count = further_count more in
    let split : parts_of (next ∷ more) ≡ split_after next more count = first_part next more in
    ap (onto_part line) split
    ∙ joined (belongs next) line next more count split

-- what is left after one more line
pub drop_next : (count : ℕ) (all : List (List ℕ)) (line : List ℕ) (others : List (List ℕ)) →
    drop count all ≡ line ∷ others → drop (count + 1) all ≡ others
drop_next zero [] line others left = absurd (cc)
drop_next zero (first ∷ more) line others left = cc
drop_next (suc count) [] line others left = absurd (cc)
drop_next (suc count) (first ∷ more) line others left =
    let one : suc count + 1 ≡ suc (count + 1) = omega arith in
    ap (λ n. drop n (first ∷ more)) one ∙ drop_next count more line others left

counted_next : (holds : Bool) (count : ℕ) → holds ≡ true →
    cond holds (count + 1) 0 ≡ count + 1
counted_next true count holds = refl
counted_next false count holds = absurd (cc)

-- one more line belongs to the statement
pub count_next : {all : List (List ℕ)} (line : List ℕ) (others : List (List ℕ)) →
    all ≡ line ∷ others → belongs line ≡ true →
    further_count all ≡ further_count others + 1
count_next line others split holds =
    ap further_count split ∙ counted_next (belongs line) (further_count others) holds

counted_taken : (holds : Bool) (line : List ℕ) (lines : List (List ℕ)) →
    length (take (further_count lines) lines) ≡ further_count lines →
    length (take (cond holds (further_count lines + 1) 0) (line ∷ lines))
    ≡ cond holds (further_count lines + 1) 0
counted_taken true line lines same = simp unary_clauses (ap (λ n. suc n) same)
counted_taken false line lines same = refl

-- no more lines belong to a statement than there are
pub count_taken : (lines : List (List ℕ)) →
    length (take (further_count lines) lines) ≡ further_count lines
count_taken [] = refl
count_taken (line ∷ lines) = counted_taken (belongs line) line lines (count_taken lines)

pub taken_part : {all others : List (List ℕ)} (line : List ℕ) (count : ℕ) → all ≡ line ∷ others →
    take (count + 1) all ≡ line ∷ take count others
taken_part {all} {others} line count split =
    let one : take (count + 1) (line ∷ others) ≡ line ∷ take count others = simp unary_clauses refl in
    ap (take (count + 1)) split ∙ one

-- the next part, of which the first line is this one with so many more, is followed by the others
pub part_next : {all others left : List (List ℕ)} (line : List ℕ) (count : ℕ) →
    all ≡ line ∷ others → count ≡ further_count others → left ≡ drop count others →
    parts_of all ≡ take (count + 1) all ∷ parts_of left
part_next {all} {others} {left} line count split counted rest =
    ap parts_of split ∙ first_part line others
    ∙ ap (split_after line others) (sym counted)
    ∙ ap (λ ls. (line ∷ take count others) ∷ parts_of ls) (sym rest)
    ∙ ap (λ part. part ∷ parts_of left) (sym (taken_part line count split))

-- and has so many lines
pub part_counted : {all others : List (List ℕ)} (line : List ℕ) (count : ℕ) →
    all ≡ line ∷ others → count ≡ further_count others → length (take (count + 1) all) ≡ count + 1
part_counted {all} {others} line count split counted =
    let same = ap (λ n. length (take n others)) counted ∙ count_taken others in
    let one = ap length (taken_part line count split) in
    omega (arith, same, counted, one)

-- where the objections to the next part are found, those to the others are left
pub objections_next : (all left : List (List ℕ)) (part : List (List ℕ)) (number count next : ℕ)
    (before found : List Objection) →
    parts_of all ≡ part ∷ parts_of left → length part ≡ count → next ≡ number + count →
    before ++ objections_from number (parts_of all) ≡ found →
    (before ++ objections_in most_of_statement number part) ++ objections_from next (parts_of left) ≡ found
objections_next all left part number count next before found split counted numbered so_far =
    let here = objections_in most_of_statement number part in
    let leads : next ≡ number + length part = omega (arith, counted, numbered) in
    append_assoc before here (objections_from next (parts_of left))
    ∙ ap (λ n. before ++ (here ++ objections_from n (parts_of left))) leads
    ∙ sym (ap (λ ps. before ++ objections_from number ps) split)
    ∙ so_far
