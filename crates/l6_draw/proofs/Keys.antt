-- The places where blocks begin, as a rising list.
use Rattle.std.proofs.Common.{◌≡◌, ℕ, ◌<◌, Bool, true, false, cond, ◌&&◌, ◌==◌, List, [], ◌∷◌, map, inl, inr, refl, arith, eq-eqb, ap, ◌∙◌, sym, subst}
use Rattle.std.proofs.lemmas.Bool.{eqb-true, ltb-true}
use Rattle.std.proofs.lemmas.List.Elements.{All-from_recursion, All-contains}
use Rattle.std.proofs.lemmas.Map.Keys.{IsStrictlyIncreasing-from_sorted, sorted_from_strictly_increasing}
use lib.Dec.{T}
use Rattle.std.specs.Cmp.{unsigned_tied}
use Rattle.std.specs.List.{AllByRecursion, Contains}
use Rattle.std.specs.List.Sorted.{IsStrictlySortedBy, IsStrictlyIncreasing}
use Rattle.std.specs.Ordering.{eq_by_cmp, is_lt, nat_cmp}
use Rattle.std.specs.declared.cmp.Ordering.{Ordering}
use Rattle.std.specs.declared.cmp.Ordering.TheVariants.{Less, Equal, Greater}
use Rattle.std.specs.FinMap as places
use Rattle.std.specs.FinMap.{is_sorted}
use Rattle.std.specs.FinMap.Entries.{below_all}
use Rattle.std.specs.Prelude.{nat_lt}
use Rattle.l6_store.specs.Blocks.{Blocks, IsLive}
use Rattle.l6_draw.proofs.Members.{any_made, any_gives, first_in, later_in, first_or_later, none_in}

first_of_both : (a b : Bool) → T (a && b) → T a
first_of_both true b is = tt
first_of_both false b is = absurd is

second_of_both : (a b : Bool) → T (a && b) → T b
second_of_both true b is = is
second_of_both false b is = absurd is

is_less : (order : Ordering) → T (is_lt order) → order ≡ Less
is_less Less is = refl
is_less Equal is = absurd is
is_less Greater is = absurd is

below_rest : (place : ℕ) (entries : List (ℕ × List ℕ)) → T (below_all nat_cmp place entries)
    → AllByRecursion (λ other. nat_cmp place other ≡ Less) (map (λ e. e.0) entries)
below_rest place [] is = tt
below_rest place (entry ∷ entries) is = (
  is_less (nat_cmp place entry.0) (first_of_both _ _ is),
  below_rest place entries
      (second_of_both _ _ is),
)

sorted_keys : (entries : List (ℕ × List ℕ)) → T (is_sorted nat_cmp entries)
    → IsStrictlySortedBy nat_cmp (map (λ e. e.0) entries)
unfolding IsStrictlySortedBy
sorted_keys [] is = tt
sorted_keys (entry ∷ entries) is =
    (below_rest entry.0 entries (first_of_both _ _ is), sorted_keys entries (second_of_both _ _ is))

pub keys_sorted : (blocks : Blocks) → IsStrictlySortedBy nat_cmp (places.keys blocks)
keys_sorted blocks = sorted_keys (places.entries blocks) (places.entries_sorted blocks)

pub keys_rise : (blocks : Blocks) → IsStrictlyIncreasing (places.keys blocks)
keys_rise blocks = IsStrictlyIncreasing-from_sorted (places.keys blocks) (keys_sorted blocks)

pub live_key : (blocks : Blocks) (place : ℕ) → IsLive blocks place
    → Contains (places.keys blocks) place
live_key blocks place live =
    let found = any_gives (eq_by_cmp nat_cmp place) (places.keys blocks)
    (sym (places.contains_key-keys blocks place) ∙ live) in
    subst (λ (other : ℕ). Contains (places.keys blocks) other)
    (sym (eqb-true place found.0 (sym (unsigned_tied place found.0) ∙ found.2))) found.1

pub key_live : (blocks : Blocks) (place : ℕ) → Contains (places.keys blocks) place
    → IsLive blocks place
key_live blocks place is =
    places.contains_key-keys blocks place
    ∙ any_made (eq_by_cmp nat_cmp place) (places.keys blocks) place is
    (unsigned_tied place place ∙ eq-eqb place place refl)

-- two rising lists with the same elements are one
not_less : (t : Bool) → cond t Equal Greater ≡ Less → ⊥
not_less true is = cc
not_less false is = cc

less_by : (x y : ℕ) (t : Bool) → (t ≡ true → x < y) → cond t Less (cond (x == y) Equal Greater) ≡ Less
    → x < y
less_by x y true below is = below refl
less_by x y false below is = absurd (not_less (x == y) is)

less_below : (x y : ℕ) → nat_cmp x y ≡ Less → x < y
less_below x y less = less_by x y (nat_lt x y) (ltb-true x y) less

pub below_later : (x y : ℕ) (xs : List ℕ) → AllByRecursion (λ other. nat_cmp x other ≡ Less) xs
    → Contains xs y → x < y
below_later x y xs all is =
    less_below x y
    (All-contains (λ other. nat_cmp x other ≡ Less) xs y
    (All-from_recursion (λ other. nat_cmp x other ≡ Less) xs all) is)

heads_are : (x y : ℕ) (xs ys : List ℕ) → AllByRecursion (λ other. nat_cmp x other ≡ Less) xs
    → AllByRecursion (λ other. nat_cmp y other ≡ Less) ys → Contains (y ∷ ys) x
    → Contains (x ∷ xs) y → x ≡ y
heads_are x y xs ys above_x above_y there back =
    elim (first_or_later y x ys there) as (λ _. x ≡ y) [
      | inl same ↦ sym same
      | inr later ↦ elim (first_or_later x y xs back) as (λ _. x ≡ y) [
        | inl same ↦ same
        | inr further ↦
            (let one = below_later y x ys above_y later in
            let other = below_later x y xs above_x further in absurd (omega arith))
      ]
    ]

tail_in : (x y z : ℕ) (xs ys : List ℕ) → x ≡ y → AllByRecursion (λ other. nat_cmp x other ≡ Less) xs
    → Contains xs z → Contains (y ∷ ys) z → Contains ys z
tail_in x y z xs ys same above is there =
    elim (first_or_later y z ys there) as (λ _. Contains ys z) [
      | inl first ↦ (let below = below_later x z xs above is in absurd (omega arith))
      | inr later ↦ later
    ]

one_list : (xs ys : List ℕ) → IsStrictlySortedBy nat_cmp xs → IsStrictlySortedBy nat_cmp ys
    → ((x : ℕ) → Contains xs x → Contains ys x) → ((x : ℕ) → Contains ys x → Contains xs x)
    → xs ≡ ys
unfolding IsStrictlySortedBy
one_list [] [] one other to from = refl
one_list [] (y ∷ ys) one other to from = absurd (none_in y (from y (first_in y ys)))
one_list (x ∷ xs) [] one other to from = absurd (none_in x (to x (first_in x xs)))
one_list (x ∷ xs) (y ∷ ys) one other to from =
    let same = heads_are x y xs ys one.0 other.0 (to x (first_in x xs)) (from y (first_in y ys)) in
    let rest = one_list xs ys one.1 other.1
    (λ z is. tail_in x y z xs ys same one.0 is (to z (later_in x z xs is)))
    (λ z is. tail_in y x z ys xs (sym same) other.0 is (from z (later_in y z ys is))) in
    cc

pub same_rising : (xs ys : List ℕ) → IsStrictlyIncreasing xs → IsStrictlyIncreasing ys
    → ((x : ℕ) → Contains xs x → Contains ys x) → ((x : ℕ) → Contains ys x → Contains xs x)
    → xs ≡ ys
same_rising xs ys one other =
    one_list xs ys (sorted_from_strictly_increasing xs one)
    (sorted_from_strictly_increasing ys other)
