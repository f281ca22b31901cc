-- What words hold from a head on is the list that they link.
use Rattle.std.proofs.Common.{◌≡◌, ℕ, zero, suc, ◌^◌, ◌<◌, ◌≤◌, Bool, false, ◌||◌, ◌==◌, nat_eq, if◌then◌else◌, List, [], ◌∷◌, length, get_or, map, refl, ap, ◌∙◌, arith}
use Rattle.std.proofs.lemmas.Bool.{ne_eqb}
use Rattle.std.proofs.lemmas.List.{same_lists, get_or-map, get_or_default, length-map}
use Rattle.std.proofs.lemmas.Map.Steps.{length-le_from_distinct_below}
use Rattle.std.specs.List.{IsDistinct, AllByRecursion, list_any}
use Rattle.l6_store.specs.Numerals.{place_bits}
use Rattle.l6_store.specs.Rule.{Order}
use Rattle.l6_store.specs.Buddy.{has, first_or, listed}
use Rattle.l6_store.specs.Links.{AreLinked, Links}
use Rattle.l6_store.specs.inner.Chains.{after_in, followed, list_of, order_of}
use Rattle.l6_store.specs.inner.ArenaLayout.{AreDistinct}
use Rattle.l6_store.proofs.Counts.{has_first}
use Rattle.l6_store.proofs.PlaceLists.{AreWithin, within_rest, first_or_within, has_not}
use Rattle.l6_store.proofs.Chains.{after_of}

has_any : (place : ℕ) (places : List ℕ) → has place places ≡ list_any (nat_eq place) places
unfolding has
has_any place [] = refl
has_any place (first ∷ rest) = ap (λ (b : Bool). place == first || b) (has_any place rest)

none_same : (place : ℕ) (places : List ℕ) → has place places ≡ false
    → AllByRecursion (λ other. nat_eq place other ≡ false) places
none_same place [] none = tt
none_same place (first ∷ rest) none =
    let parts = has_not place first rest none in
    (ne_eqb place first parts.0, none_same place rest parts.1)

distinct_in_std : (places : List ℕ) → AreDistinct places → IsDistinct nat_eq places
unfolding IsDistinct
distinct_in_std [] are = tt
distinct_in_std (first ∷ rest) are = (none_same first rest are.0, distinct_in_std rest are.1)

-- distinct places below a bound are no more than the bound
pub few : (bound : ℕ) (places : List ℕ) → AreDistinct places → AreWithin bound places
    → length places ≤ bound
few bound places are within =
    length-le_from_distinct_below places bound (distinct_in_std places are)
    (λ q is. (within q (has_any q places ∙ is)).1)

followed_is : (count : ℕ) (words : List ℕ) (before : ℕ) (places : List ℕ)
    → AreWithin (length words) places → length words ≤ 2 ^ place_bits → length places ≤ count
    → AreLinked words before places 0 → followed count words (first_or places 0) ≡ places
unfolding followed
followed_is zero words before [] within small long linked = refl
followed_is zero words before (first ∷ rest) within small long linked = absurd (omega arith)
followed_is (suc count) words before [] within small long linked = refl
followed_is (suc count) words before (first ∷ rest) within small long linked =
    let some = within first (has_first first rest) in
    let after : after_in (get_or words first 0) ≡ first_or rest 0
    = ap after_in linked.0
    ∙ after_of before (first_or rest 0)
    (omega (
      arith,
      small,
      first_or_within (length words) rest (omega (arith, some.1))
          (within_rest (length words) first rest within),
    )) in
    ap (λ (b : Bool). if b then []
    else first ∷ followed count words (after_in (get_or words first 0)))
    (ne_eqb first 0 (λ none. absurd (omega (arith, some.0))))
    ∙ ap (λ (next : ℕ). first ∷ followed count words next) after
    ∙ ap (λ (ps : List ℕ). first ∷ ps)
    (followed_is count words first rest (within_rest (length words) first rest within) small
    (omega arith) linked.1)

pub list_is : (words places : List ℕ) → AreDistinct places → AreWithin (length words) places
    → length words ≤ 2 ^ place_bits → AreLinked words 0 places 0
    → list_of words (first_or places 0) ≡ places
unfolding list_of
list_is words places are within small linked =
    followed_is (length words) words 0 places within small (few (length words) places are within)
    linked

-- and so for all lists
pub order_is : (words heads : List ℕ) (order : Order) → Links words heads order
    → length words ≤ 2 ^ place_bits
    → ((level : ℕ) → AreDistinct (listed order level))
    → ((level : ℕ) → AreWithin (length words) (listed order level))
    → order_of words heads ≡ order
unfolding order_of
order_is words heads order links small are within =
    same_lists (map (list_of words) heads) order
    (length-map heads (list_of words) ∙ links.count)
    (λ level d below.
    let room : level < length heads = omega (arith, length-map heads (list_of words)) in
    let inside : level < length order = omega (arith, links.count) in
    get_or-map (list_of words) heads level 0 d room
    ∙ ap (list_of words) (links.begun level)
    ∙ list_is words (listed order level) (are level) (within level) small (links.linked level)
    ∙ get_or_default order level [] d inside)
