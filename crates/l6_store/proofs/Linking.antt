-- What becomes of the lists of free pieces, and of their tags, when a piece is linked or taken out.
use Rattle.std.proofs.Common.{◌≡◌, ◌≢◌, ℕ, ◌^◌, ◌<◌, ◌≤◌, Bool, true, false, if◌then◌else◌, ◌==◌, List, ◌∷◌, length, get_or, set, ap, sym, ◌∙◌, subst, arith, inl, inr}
use Rattle.std.proofs.lemmas.Bool.{cases_lt, cases_eq, cases_Bool}
use Rattle.std.proofs.lemmas.List.{get_or-set_same, get_or-set_other, get_or_past, length-set}
use Rattle.l6_word.specs.Numerals.{largest_level}
use Rattle.l6_store.specs.Numerals.{place_bits}
use Rattle.l6_store.specs.Rule.{Order}
use Rattle.l6_store.specs.Buddy.{has, without, listed, IsListed, in_front, taken_out, first_or}
use Rattle.l6_store.specs.Links.{AreLinked}
use Rattle.l6_store.specs.inner.Chains.{before_in, after_in, with_head, words_linked, words_unlinked, order_of}
use Rattle.l6_store.specs.inner.ArenaLayout.{AreDistinct, AreLists, place_tag_at}
use Rattle.l6_store.specs.declared.place_tag.PlaceTag.{PlaceTag}
use Rattle.l6_store.specs.declared.place_tag.PlaceTag.TheVariants.{Inner, Listed}
use Rattle.l6_store.proofs.Counts.{has_first, has_more, listed_same, listed_other}
use Rattle.l6_store.proofs.ListedPieces.{the_one, another, in_front_listed, taken_out_listed}
use Rattle.l6_store.proofs.PlaceLists.{AreWithin, distinct_without, without_gone, without_other}
use Rattle.l6_store.proofs.Chains.{linked_along, linked_front, linked_others}
use Rattle.l6_store.proofs.Unlinking.{unlinked, unlinked_others, head_unlinked}
use Rattle.l6_store.proofs.Lists.{order_is}

-- ---- what the tags tell of lists
-- a place that is listed at all is one of the store, and not 0
pub lists_within : (words heads : List ℕ) (place_tags : List PlaceTag) (order : Order)
    → AreLists words heads place_tags order → length place_tags ≡ length words → (level : ℕ)
    → AreWithin (length words) (listed order level)
lists_within words heads place_tags order are count level place is =
    let place_tag = are.with_tag level place is in (
      elim (cases_lt place 1) as (λ _. 1 ≤ place) [
        | inl none ↦
            let zero_is : place ≡ 0 = omega arith in
            let first = ap (place_tag_at place_tags) zero_is in
            let not = are.none in
            cc
        | inr some ↦ some
      ],
      elim (cases_lt place (length place_tags)) as (λ _. place < length words) [
        | inl below ↦ omega arith
        | inr past ↦ (let inner = get_or_past place_tags place Inner past in cc)
      ],
    )

-- it is listed at one level
pub one_level : (words heads : List ℕ) (place_tags : List PlaceTag) (order : Order)
    → AreLists words heads place_tags order → (level k place : ℕ) → IsListed order level place
    → IsListed order k place → level ≡ k
one_level words heads place_tags order are level k place one other =
    let first = are.with_tag level place one in let second = are.with_tag k place other in
    let both : Listed level ≡ Listed k = sym first ∙ second in
    cc

pub lists_show : (words heads : List ℕ) (place_tags : List PlaceTag) (order : Order)
    → AreLists words heads place_tags order → length place_tags ≡ length words
    → length words ≤ 2 ^ place_bits → order_of words heads ≡ order
lists_show words heads place_tags order are count small =
    order_is words heads order are.links small are.distinct
    (lists_within words heads place_tags order are count)

not_has : (place : ℕ) (places : List ℕ) → (has place places ≡ true → ⊥)
    → has place places ≡ false
not_has place places not =
    elim (cases_Bool (has place places)) as (λ _. has place places ≡ false) [
      | inl is ↦ absurd (not is)
      | inr absent ↦ absent
    ]

in_front_keeps : (order : Order) (level place k p : ℕ) → level < length order
    → IsListed order k p → IsListed (in_front order level place) k p
in_front_keeps order level place k p room is =
    elim (cases_eq k level) as (λ _. IsListed (in_front order level place) k p) [
      | inl same ↦
          ap (λ (j : ℕ). has p (listed (in_front order level place) j)) same
          ∙ ap (has p) (listed_same order level (place ∷ listed order level) room)
          ∙ has_more p place (listed order level)
          (ap (λ (j : ℕ). has p (listed order j)) (sym same) ∙ is)
      | inr other ↦
          ap (has p) (listed_other order level k (place ∷ listed order level) other) ∙ is
    ]

in_front_first : (order : Order) (level place : ℕ) → level < length order
    → IsListed (in_front order level place) level place
in_front_first order level place room =
    ap (has place) (listed_same order level (place ∷ listed order level) room)
    ∙ has_first place (listed order level)

-- ---- a piece is linked
module _ (words heads : List ℕ) (place_tags : List PlaceTag) (order : Order)
    (are : AreLists words heads place_tags order) (count : length place_tags ≡ length words)
    (small : length words ≤ 2 ^ place_bits) (level place head : ℕ) (level_small : level ≤ largest_level)
    (some : 1 ≤ place) (below : place < length words)
    (fresh : (k : ℕ) → IsListed order k place → ⊥) (head_is : head ≡ get_or heads level 0) where
  room : level < length order
  room = omega (arith, are.levels)

  heads_room : level < length heads
  heads_room = omega (arith, room, are.links.count)

  begins : head ≡ first_or (listed order level) 0
  begins = head_is ∙ are.links.begun level

  link_begun : (k : ℕ) → get_or (set heads level place) k 0
      ≡ first_or (listed (in_front order level place) k) 0
  link_begun k =
      elim (cases_eq k level)
      as (λ _. get_or (set heads level place) k 0
      ≡ first_or (listed (in_front order level place) k) 0) [
        | inl same ↦
            ap (λ (j : ℕ). get_or (set heads level place) j 0) same
            ∙ get_or-set_same heads level place 0 heads_room
            ∙ sym (ap (λ (j : ℕ). first_or (listed (in_front order level place) j) 0) same
            ∙ ap (λ (ps : List ℕ). first_or ps 0)
            (listed_same order level (place ∷ listed order level) room))
        | inr other ↦
            get_or-set_other heads level k place 0 other
            ∙ are.links.begun k
            ∙ sym (ap (λ (ps : List ℕ). first_or ps 0)
            (listed_other order level k (place ∷ listed order level) other))
      ]

  link_linked : (k : ℕ)
      → AreLinked (words_linked words place head) 0 (listed (in_front order level place) k) 0
  link_linked k =
      elim (cases_eq k level)
      as (λ _. AreLinked (words_linked words place head) 0
      (listed (in_front order level place) k) 0) [
        | inl same ↦
            subst (λ (ps : List ℕ). AreLinked (words_linked words place head) 0 ps 0)
            (sym (ap (listed (in_front order level place)) same
            ∙ listed_same order level (place ∷ listed order level) room))
            (linked_front words (listed order level) place head (are.distinct level)
            (lists_within words heads place_tags order are count level) small some below
            (not_has place (listed order level) (fresh level)) begins (are.links.linked level))
        | inr other ↦
            subst (λ (ps : List ℕ). AreLinked (words_linked words place head) 0 ps 0)
            (sym (listed_other order level k (place ∷ listed order level) other))
            (linked_along words (words_linked words place head) 0 (listed order k) 0
            (λ at is. linked_others words (listed order level) place head at begins
            (λ same. fresh k (ap (λ (p : ℕ). has p (listed order k)) (sym same) ∙ is))
            (not_has at (listed order level)
            (λ there. other (one_level words heads place_tags order are k level at is there))))
            (are.links.linked k))
      ]

  link_distinct : (k : ℕ) → AreDistinct (listed (in_front order level place) k)
  link_distinct k =
      elim (cases_eq k level) as (λ _. AreDistinct (listed (in_front order level place) k)) [
        | inl same ↦
            subst AreDistinct
            (sym (ap (listed (in_front order level place)) same
            ∙ listed_same order level (place ∷ listed order level) room))
            (not_has place (listed order level) (fresh level), are.distinct level)
        | inr other ↦
            subst AreDistinct
            (sym (listed_other order level k (place ∷ listed order level) other)) (are.distinct k)
      ]

  tagged_new : place_tag_at (set place_tags place (Listed level)) place ≡ Listed level
  tagged_new = get_or-set_same place_tags place (Listed level) Inner (omega (arith, count))

  link_tagged : (k p : ℕ) → IsListed (in_front order level place) k p
      → place_tag_at (set place_tags place (Listed level)) p ≡ Listed k
  link_tagged k p is =
      elim (in_front_listed order level place k p room is)
      as (λ _. place_tag_at (set place_tags place (Listed level)) p ≡ Listed k) [
        | the_one same here ↦
            ap (place_tag_at (set place_tags place (Listed level))) here
            ∙ tagged_new ∙ ap (λ (j : ℕ). Listed j) (sym same)
        | another was ↦
            get_or-set_other place_tags place p (Listed level) Inner
            (λ same. fresh k (ap (λ (q : ℕ). has q (listed order k)) (sym same) ∙ was))
            ∙ are.with_tag k p was
      ]

  link_known : (k p : ℕ) → place_tag_at (set place_tags place (Listed level)) p ≡ Listed k
      → IsListed (in_front order level place) k p
  link_known k p is =
      elim (cases_eq p place) as (λ _. IsListed (in_front order level place) k p) [
        | inl same ↦
            let here : Listed level ≡ Listed k
            = sym tagged_new ∙ ap (place_tag_at (set place_tags place (Listed level))) (sym same)
            ∙ is in
            let levels : level ≡ k = cc in
            subst (λ (j : ℕ). IsListed (in_front order level place) j p) levels
            (ap (λ (q : ℕ). has q (listed (in_front order level place) level)) same
            ∙ in_front_first order level place room)
        | inr other ↦
            in_front_keeps order level place k p room
            (are.determined k p (sym (get_or-set_other place_tags place p (Listed level) Inner other) ∙ is))
      ]

  pub lists-linked : AreLists (words_linked words place head) (set heads level place)
      (set place_tags place (Listed level)) (in_front order level place)
  lists-linked = record {
    levels = length-set order level (place ∷ listed order level) ∙ are.levels;
    links = record {
      count = length-set heads level place ∙ are.links.count
          ∙ sym (length-set order level (place ∷ listed order level));
      begun = link_begun;
      linked = link_linked;
    };
    distinct = link_distinct;
    with_tag = link_tagged;
    determined = link_known;
    none = get_or-set_other place_tags place 0 (Listed level) Inner (λ same. absurd (omega arith))
        ∙ are.none;
  }

-- ---- a piece is taken out
module _ (words heads : List ℕ) (place_tags : List PlaceTag) (order : Order)
    (are : AreLists words heads place_tags order) (count : length place_tags ≡ length words)
    (small : length words ≤ 2 ^ place_bits) (level place : ℕ) (there : IsListed order level place)
    (level_small : level ≤ largest_level) where
  out_room : level < length order
  out_room = omega (arith, are.levels)

  out_heads_room : level < length heads
  out_heads_room = omega (arith, out_room, are.links.count)

  within_level : AreWithin (length words) (listed order level)
  within_level = lists_within words heads place_tags order are count level

  word : ℕ
  word = get_or words place 0

  with_head-other : (k before after : ℕ) → k ≢ level
      → get_or (with_head heads level before after) k 0 ≡ get_or heads k 0
  unfolding with_head
  with_head-other k before after other =
      elim (cases_Bool (before == 0))
      as (λ _. get_or (with_head heads level before after) k 0 ≡ get_or heads k 0) [
        | inl none ↦
            ap (λ (b : Bool). get_or (if b then set heads level after else heads) k 0) none
            ∙ get_or-set_other heads level k after 0 other
        | inr one ↦ ap (λ (b : Bool). get_or (if b then set heads level after else heads) k 0) one
      ]

  length-with_head : (before after : ℕ) → length (with_head heads level before after) ≡ length heads
  unfolding with_head
  length-with_head before after =
      elim (cases_Bool (before == 0))
      as (λ _. length (with_head heads level before after) ≡ length heads) [
        | inl none ↦
            ap (λ (b : Bool). length (if b then set heads level after else heads)) none
            ∙ length-set heads level after
        | inr one ↦ ap (λ (b : Bool). length (if b then set heads level after else heads)) one
      ]

  out_begun : (k : ℕ)
      → get_or (with_head heads level (before_in (get_or words place 0))
      (after_in (get_or words place 0))) k 0
      ≡ first_or (listed (taken_out order level place) k) 0
  out_begun k =
      elim (cases_eq k level)
      as (λ _. get_or (with_head heads level (before_in (get_or words place 0))
      (after_in (get_or words place 0))) k 0
      ≡ first_or (listed (taken_out order level place) k) 0) [
        | inl same ↦
            ap (λ (j : ℕ). get_or (with_head heads level (before_in (get_or words place 0))
            (after_in (get_or words place 0))) j 0) same
            ∙ head_unlinked words (listed order level) heads level place there within_level small
            (are.links.linked level) out_heads_room (are.links.begun level)
            ∙ sym (ap (λ (j : ℕ). first_or (listed (taken_out order level place) j) 0) same
            ∙ ap (λ (ps : List ℕ). first_or ps 0)
            (listed_same order level (without place (listed order level)) out_room))
        | inr other ↦
            with_head-other k (before_in (get_or words place 0)) (after_in (get_or words place 0)) other
            ∙ are.links.begun k
            ∙ sym (ap (λ (ps : List ℕ). first_or ps 0)
            (listed_other order level k (without place (listed order level)) other))
      ]

  out_linked : (k : ℕ)
      → AreLinked (words_unlinked words place) 0 (listed (taken_out order level place) k) 0
  out_linked k =
      elim (cases_eq k level)
      as (λ _. AreLinked (words_unlinked words place) 0
      (listed (taken_out order level place) k) 0) [
        | inl same ↦
            subst (λ (ps : List ℕ). AreLinked (words_unlinked words place) 0 ps 0)
            (sym (ap (listed (taken_out order level place)) same
            ∙ listed_same order level (without place (listed order level)) out_room))
            (unlinked words (listed order level) place there (are.distinct level) within_level small
            (are.links.linked level))
        | inr other ↦
            subst (λ (ps : List ℕ). AreLinked (words_unlinked words place) 0 ps 0)
            (sym (listed_other order level k (without place (listed order level)) other))
            (linked_along words (words_unlinked words place) 0 (listed order k) 0
            (λ at is. unlinked_others words (listed order level) place at there within_level small
            (are.links.linked level)
            (not_has at (listed order level)
            (λ in_level. other (one_level words heads place_tags order are k level at is in_level))))
            (are.links.linked k))
      ]

  out_distinct : (k : ℕ) → AreDistinct (listed (taken_out order level place) k)
  out_distinct k =
      elim (cases_eq k level) as (λ _. AreDistinct (listed (taken_out order level place) k)) [
        | inl same ↦
            subst AreDistinct
            (sym (ap (listed (taken_out order level place)) same
            ∙ listed_same order level (without place (listed order level)) out_room))
            (distinct_without place (listed order level) (are.distinct level))
        | inr other ↦
            subst AreDistinct
            (sym (listed_other order level k (without place (listed order level)) other))
            (are.distinct k)
      ]

  -- the piece is listed no more
  pub out_gone : (k : ℕ) → IsListed (taken_out order level place) k place → ⊥
  out_gone k is =
      let was = taken_out_listed order level place k place out_room is in
      let same : k ≡ level = one_level words heads place_tags order are k level place was there in
      let gone = without_gone place (listed order level) (are.distinct level) in
      let lists : listed (taken_out order level place) k ≡ without place (listed order level)
      = ap (listed (taken_out order level place)) same
      ∙ listed_same order level (without place (listed order level)) out_room in
      let found : has place (without place (listed order level)) ≡ true
      = ap (has place) (sym lists) ∙ is in
      cc

  out_tagged : (k p : ℕ) → IsListed (taken_out order level place) k p
      → place_tag_at (set place_tags place Inner) p ≡ Listed k
  out_tagged k p is =
      get_or-set_other place_tags place p Inner Inner
      (λ same. out_gone k
      (ap (λ (q : ℕ). has q (listed (taken_out order level place) k)) (sym same) ∙ is))
      ∙ are.with_tag k p (taken_out_listed order level place k p out_room is)

  out_known : (k p : ℕ) → place_tag_at (set place_tags place Inner) p ≡ Listed k
      → IsListed (taken_out order level place) k p
  out_known k p is =
      elim (cases_eq p place) as (λ _. IsListed (taken_out order level place) k p) [
        | inl same ↦
            let inner : place_tag_at (set place_tags place Inner) place ≡ Inner
            = get_or-set_same place_tags place Inner Inner
            (omega (arith, count, (within_level place there).1)) in
            let here = ap (place_tag_at (set place_tags place Inner)) same in
            cc
        | inr other ↦
            let was = are.determined k p (sym (get_or-set_other place_tags place p Inner Inner other) ∙ is) in
            elim (cases_eq k level) as (λ _. IsListed (taken_out order level place) k p) [
              | inl levels ↦
                  ap (λ (j : ℕ). has p (listed (taken_out order level place) j)) levels
                  ∙ ap (has p)
                  (listed_same order level (without place (listed order level)) out_room)
                  ∙ without_other p place (listed order level) other
                  (ap (λ (j : ℕ). has p (listed order j)) (sym levels) ∙ was)
              | inr differ ↦
                  ap (has p)
                  (listed_other order level k (without place (listed order level)) differ) ∙ was
            ]
      ]

  pub lists-unlinked : AreLists (words_unlinked words place)
      (with_head heads level (before_in (get_or words place 0)) (after_in (get_or words place 0)))
      (set place_tags place Inner) (taken_out order level place)
  lists-unlinked = record {
    levels = length-set order level (without place (listed order level)) ∙ are.levels;
    links = record {
      count = length-with_head (before_in (get_or words place 0)) (after_in (get_or words place 0))
          ∙ are.links.count
          ∙ sym (length-set order level (without place (listed order level)));
      begun = out_begun;
      linked = out_linked;
    };
    distinct = out_distinct;
    with_tag = out_tagged;
    determined = out_known;
    none = get_or-set_other place_tags place 0 Inner Inner
        (λ same. absurd (omega (arith, (within_level place there).0)))
        ∙ are.none;
  }
