-- What becomes of the visited places as numbers are met, and how much is left to do.
use Rattle.std.proofs.Common.{◌≡◌, ℕ, zero, suc, ◌+◌, ◌<◌, Bool, true, false, not, ◌&&◌, List, [], ◌∷◌, ◌++◌, length, set, cond, inl, inr, ◌⊎◌, refl, arith, ap, ◌∙◌, sym, subst}
use Rattle.std.proofs.lemmas.Bool.{and_parts, and_from, cases_eq, cases_Bool, lt-ltb, ltb-true, not-true, not_from_false, both_ways}
use Rattle.std.proofs.lemmas.List.{get_or-set_same, get_or-set_other, length-set, length-append}
use Rattle.std.specs.List.{Contains, filter}
use Rattle.std.specs.Prelude.{nat_lt}
use Rattle.std.specs.FinMap as places
use Rattle.l6_store.specs.Blocks.{Blocks, IsLive}
use Rattle.l6_draw.specs.inner.Walk.{Walk, all_met, is_visited, is_new, met}
use Rattle.l6_draw.proofs.Members.{first_or_later, none_in}

-- what is done to the visited places
pub visited_place_stays : (visited : List Bool) (number place : ℕ) → number < length visited
    → is_visited visited place ≡ true → is_visited (set visited number true) place ≡ true
visited_place_stays visited number place within is =
    elim (cases_eq place number) as (λ _. is_visited (set visited number true) place ≡ true) [
      | inl same ↦
          subst (λ (p : ℕ). is_visited (set visited number true) p ≡ true) (sym same)
          (get_or-set_same visited number true false within)
      | inr other ↦ get_or-set_other visited number place true false other ∙ is
    ]

pub visited_place_by : (visited : List Bool) (number place : ℕ)
    → is_visited (set visited number true) place ≡ true
    → (place ≡ number) ⊎ (is_visited visited place ≡ true)
visited_place_by visited number place is =
    elim (cases_eq place number) as (λ _. (place ≡ number) ⊎ (is_visited visited place ≡ true)) [
      | inl same ↦ inl same
      | inr other ↦ inr (sym (get_or-set_other visited number place true false other) ∙ is)
    ]

-- how many places have no visit
abbrev pub untagged : List Bool → ℕ
untagged visited = length (filter not visited)

one_less : (visit : Bool) (visited : List Bool) (number : ℕ) → number < length (visit ∷ visited)
    → is_visited (visit ∷ visited) number ≡ false
    → untagged (visit ∷ visited) ≡ suc (untagged (set (visit ∷ visited) number true))
one_less true visited zero within is = (let wrong = is in cc)
one_less false visited zero within is = refl
one_less true [] (suc number) within is = absurd (omega arith)
one_less false [] (suc number) within is = absurd (omega arith)
one_less true (next ∷ visited) (suc number) within is = one_less next visited number (omega arith) is
one_less false (next ∷ visited) (suc number) within is =
    ap (λ (n : ℕ). suc n) (one_less next visited number (omega arith) is)

one_visit_more : (visited : List Bool) (number : ℕ) → number < length visited
    → is_visited visited number ≡ false
    → untagged visited ≡ suc (untagged (set visited number true))
one_visit_more [] number within is = absurd (omega arith)
one_visit_more (visit ∷ visited) number within is = one_less visit visited number within is

-- how much is left to do: places to visit, and places to look at
abbrev pub left : Walk → ℕ
left walk = untagged walk.visited + length walk.worklist

-- what numbers that are met leave as it is
pub record Grows (old new : Walk) : Type 0 where
  pub stays : (place : ℕ) → is_visited old.visited place ≡ true → is_visited new.visited place ≡ true
  pub count : length new.visited ≡ length old.visited
  pub to_do : left new ≡ left old

grows_same : (walk : Walk) → Grows walk walk
grows_same walk = record { stays = λ place is. is; count = refl; to_do = refl }

grows_on : (old new newer : Walk) → Grows old new → Grows new newer → Grows old newer
grows_on old new newer one two = record {
  stays = λ place is. two.stays place (one.stays place is);
  count = two.count ∙ one.count;
  to_do = two.to_do ∙ one.to_do;
}

-- a number that is new, or not
abbrev pub visited_place_new : ℕ → Walk → Walk
visited_place_new number walk = record {
  visited = set walk.visited number true;
  worklist = walk.worklist ++ number ∷ [];
}

pub record IsNew (blocks : Blocks) (visited : List Bool) (number : ℕ) : Type 0 where
  pub within : number < length visited
  pub untagged_yet : is_visited visited number ≡ false
  pub live : IsLive blocks number

new_is : (blocks : Blocks) (visited : List Bool) (number : ℕ) → is_new blocks visited number ≡ true
    → IsNew blocks visited number
new_is blocks visited number is =
    let last = and_parts (nat_lt number (length visited) && not (is_visited visited number))
    (places.contains_key blocks number) is in
    let first = and_parts (nat_lt number (length visited)) (not (is_visited visited number)) last.0 in
    record {
      within = ltb-true number (length visited) first.0;
      untagged_yet = not-true (is_visited visited number) first.1;
      live = last.1;
    }

-- what holds of a walk once a number is met: by whether it is new
pub met_by : (P : Walk → Type 0) (blocks : Blocks) (number : ℕ) (walk : Walk)
    → (IsNew blocks walk.visited number → P (visited_place_new number walk))
    → (is_new blocks walk.visited number ≡ false → P walk) → P (met blocks number walk)
unfolding met
met_by P blocks number walk new old =
    elim (is_new blocks walk.visited number)
    as (λ b. is_new blocks walk.visited number ≡ b → P (cond b (visited_place_new number walk) walk)) [
      | true ↦ λ is. new (new_is blocks walk.visited number is)
      | false ↦ λ is. old is
    ] refl

met_grows : (blocks : Blocks) (number : ℕ) (walk : Walk) → Grows walk (met blocks number walk)
met_grows blocks number walk =
    met_by (Grows walk) blocks number walk
    (λ new. record {
      stays = λ place is. visited_place_stays walk.visited number place new.within is;
      count = length-set walk.visited number true;
      to_do =
          let one = one_visit_more walk.visited number new.within new.untagged_yet in
          let more = length-append walk.worklist (number ∷ []) in omega arith;
    })
    (λ _. grows_same walk)

pub all_met_grows : (blocks : Blocks) (numbers : List ℕ) (walk : Walk)
    → Grows walk (all_met blocks numbers walk)
all_met_grows blocks [] walk = grows_same walk
all_met_grows blocks (number ∷ numbers) walk =
    grows_on walk (met blocks number walk) (all_met blocks numbers (met blocks number walk))
    (met_grows blocks number walk) (all_met_grows blocks numbers (met blocks number walk))

-- there is a visit for each block
pub record Room (blocks : Blocks) (visited : List Bool) : Type 0 where
  pub each : (place : ℕ) → IsLive blocks place → place < length visited

pub room_stays : (blocks : Blocks) (old new : Walk) → Grows old new → Room blocks old.visited
    → Room blocks new.visited
room_stays blocks old new grows room = record {
  each = λ place live. (let within = room.each place live in let count = grows.count in omega arith);
}

-- what is met is visited, if a block begins there
met_visited : (blocks : Blocks) (number : ℕ) (walk : Walk) → Room blocks walk.visited
    → IsLive blocks number → is_visited (met blocks number walk).visited number ≡ true
met_visited blocks number walk room live =
    met_by (λ new. is_visited new.visited number ≡ true) blocks number walk
    (λ new. get_or-set_same walk.visited number true false new.within)
    (λ known.
    elim (cases_Bool (is_visited walk.visited number)) as (λ _. is_visited walk.visited number ≡ true) [
      | inl visited_place ↦ visited_place
      | inr untagged ↦ absurd (both_ways (is_new blocks walk.visited number) known
          (and_from (nat_lt number (length walk.visited) && not (is_visited walk.visited number))
          (places.contains_key blocks number)
          (and_from (nat_lt number (length walk.visited)) (not (is_visited walk.visited number))
          (lt-ltb number (length walk.visited) (room.each number live))
          (not_from_false (is_visited walk.visited number) untagged)) live))
    ])

pub all_met_visited : (blocks : Blocks) (numbers : List ℕ) (walk : Walk) → Room blocks walk.visited
    → (number : ℕ) → Contains numbers number → IsLive blocks number
    → is_visited (all_met blocks numbers walk).visited number ≡ true
all_met_visited blocks [] walk room number is live = absurd (none_in number is)
all_met_visited blocks (first ∷ numbers) walk room number is live =
    let grown = room_stays blocks walk (met blocks first walk) (met_grows blocks first walk) room in
    elim (first_or_later first number numbers is)
    as (λ _. is_visited (all_met blocks numbers (met blocks first walk)).visited number ≡ true) [
      | inl same ↦
          (all_met_grows blocks numbers (met blocks first walk)).stays number
          (subst (λ (n : ℕ). is_visited (met blocks first walk).visited n ≡ true) same
          (met_visited blocks first walk room
          (subst (λ (n : ℕ). IsLive blocks n) (sym same) live)))
      | inr later ↦ all_met_visited blocks numbers (met blocks first walk) grown number later live
    ]
