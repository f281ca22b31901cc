-- What is seen of a state, value by value.
use Rattle.std.proofs.Common.{◌≡◌, ℕ, ◌+◌, ◌<◌, Bool, false, List, [], ◌∷◌, Option, Some, None, drop, length, get_or, refl, sym, ap, ◌∙◌, arith, inl, inr}
use Rattle.std.specs.Prelude.{◌||◌, ◌==◌, not}
use Rattle.std.proofs.lemmas.Bool.{eqb-true, not-false, or_parts}
use Rattle.std.proofs.lemmas.Bool.Decides.{eqb_tells}
use Rattle.std.proofs.lemmas.List.{drop_more, get_or-map}
use Rattle.l6_steps.specs.State.{Memory}
use Rattle.l6_history.specs.Stop.{differs, some_differ, value_of, values_of}
use Rattle.l6_history.specs.declared.watched.Watched.{Watched}

-- whether some differ from here on is said by the next ones and by those after them
pub differ_more : (old new : List (Option ℕ)) (index : ℕ) (kept value : Option ℕ) (changes : Bool) →
    index < length old → index < length new → kept ≡ get_or old index kept →
    value ≡ get_or new index value → changes ≡ differs kept value →
    some_differ (drop index old) (drop index new) ≡ some_differ old new →
    (changes || some_differ (drop (index + 1) old) (drop (index + 1) new)) ≡ some_differ old new
differ_more old new index kept value changes within within' is is' are before =
    let next_old : drop index old ≡ kept ∷ drop (index + 1) old =
    drop_more old index kept within ∙ ap (λ o. o ∷ drop (index + 1) old) (sym is) in
    let next_new : drop index new ≡ value ∷ drop (index + 1) new =
    drop_more new index value within' ∙ ap (λ o. o ∷ drop (index + 1) new) (sym is') in
    ap (λ b. b || some_differ (drop (index + 1) old) (drop (index + 1) new)) are
    ∙ ap (λ olds. some_differ olds (value ∷ drop (index + 1) new)) (sym next_old)
    ∙ ap (λ news. some_differ (drop index old) news) (sym next_new)
    ∙ before

-- where no other values are left, none differs
pub none_left : (ones : List (Option ℕ)) → some_differ ones [] ≡ false
none_left [] = refl
none_left (one ∷ ones) = refl

-- two values that do not differ are one
pub same_value : (one other : Option ℕ) → differs one other ≡ false → one ≡ other
same_value None None same = refl
same_value None (Some other) same = cc
same_value (Some one) None same = cc
same_value (Some one) (Some other) same = ap (λ (n : ℕ). Some n)
    (eqb-true one other (not-false (one == other) same))

-- as many values that do not differ are the same
pub none_differ : (ones others : List (Option ℕ)) → length ones ≡ length others →
    some_differ ones others ≡ false → ones ≡ others
none_differ [] [] many same = refl
none_differ [] (other ∷ others) many same = absurd (omega (arith, many))
none_differ (one ∷ ones) [] many same = absurd (omega (arith, many))
none_differ (one ∷ ones) (other ∷ others) many same =
    let parts = or_parts (differs one other) (some_differ ones others) same in
    ap (λ o. o ∷ ones) (same_value one other parts.0)
    ∙ ap (λ l. other ∷ l) (none_differ ones others (omega (arith, many)) parts.1)

-- what is watched reads as the value at its index
pub read_as : (watched : List Watched) (memory : Memory) (index : ℕ) (one : Watched)
    (value : Option ℕ) → index < length watched → one ≡ get_or watched index one →
    value ≡ value_of memory one →
    value ≡ get_or (values_of watched memory) index value
read_as watched memory index one value within is reads =
    reads ∙ ap (value_of memory) is
    ∙ sym (get_or-map (value_of memory) watched index one value within)

-- what is compared with itself does not differ
same_differs : (value : Option ℕ) → differs value value ≡ false
same_differs None = refl
same_differs (Some n) = elim (eqb_tells n n) as (λ _. not (n == n) ≡ false) [
  | inl same ↦ ap not same.0
  | inr other ↦ absurd (other.1 refl)
]

pub same_values : (values : List (Option ℕ)) → some_differ values values ≡ false
same_values [] = refl
same_values (value ∷ values) =
    ap (λ b. b || some_differ values values) (same_differs value) ∙ same_values values
