-- One list of places, linked by words: its parts, and what one more place in front of it does.
use Rattle.std.proofs.Common.{◌≡◌, ◌≢◌, ℕ, ◌^◌, ◌<◌, ◌≤◌, Bool, true, false, if◌then◌else◌, List, [], ◌∷◌, ◌++◌, length, get_or, set, refl, ap, sym, ◌∙◌, subst, arith, inl, inr, ◌⊎◌}
use Rattle.std.proofs.lemmas.Bool.{cases_lt, eq-eqb, ne_eqb}
use Rattle.std.proofs.lemmas.List.{get_or-set_same, get_or-set_other, length-set}
use Rattle.l6_store.specs.Numerals.{place_bits}
use Rattle.l6_store.specs.Buddy.{has, first_or}
use Rattle.l6_store.specs.Links.{AreLinked, link_word}
use Rattle.l6_store.specs.inner.Chains.{before_in, after_in, with_before, with_after, words_linked}
use Rattle.l6_store.specs.inner.ArenaLayout.{AreDistinct}
use Rattle.l6_store.proofs.Counts.{has_first, has_more}
use Rattle.l6_store.proofs.PlaceLists.{has_not, last_or, has_last_or, AreWithin, within_rest, first_or_within}

-- ---- the word of a link
pub before_of : (before after : ℕ) → after < 2 ^ place_bits
    → before_in (link_word before after) ≡ before
before_of before after small = omega arith

pub after_of : (before after : ℕ) → after < 2 ^ place_bits
    → after_in (link_word before after) ≡ after
after_of before after small = omega arith

-- ---- the words after a place is linked or unlinked
pub with_before_at : (words : List ℕ) (place before : ℕ) → 1 ≤ place
    → with_before words place before
    ≡ set words place (link_word before (after_in (get_or words place 0)))
unfolding with_before
with_before_at words place before some =
    ap (λ (b : Bool). if b then words
    else set words place (link_word before (after_in (get_or words place 0))))
    (ne_eqb place 0 (λ none. absurd (omega arith)))

pub with_after_at : (words : List ℕ) (place after : ℕ) → 1 ≤ place
    → with_after words place after
    ≡ set words place (link_word (before_in (get_or words place 0)) after)
unfolding with_after
with_after_at words place after some =
    ap (λ (b : Bool). if b then words
    else set words place (link_word (before_in (get_or words place 0)) after))
    (ne_eqb place 0 (λ none. absurd (omega arith)))

pub with_before_none : (words : List ℕ) (place before : ℕ) → place ≡ 0
    → with_before words place before ≡ words
unfolding with_before
with_before_none words place before none =
    ap (λ (b : Bool). if b then words
    else set words place (link_word before (after_in (get_or words place 0)))) (eq-eqb place 0 none)

pub with_after_none : (words : List ℕ) (place after : ℕ) → place ≡ 0
    → with_after words place after ≡ words
unfolding with_after
with_after_none words place after none =
    ap (λ (b : Bool). if b then words
    else set words place (link_word (before_in (get_or words place 0)) after)) (eq-eqb place 0 none)

-- a place is 0 or not
some_or_none : (place : ℕ) → (1 ≤ place) ⊎ (place ≡ 0)
some_or_none place =
    elim (cases_lt place 1) as (λ _. (1 ≤ place) ⊎ (place ≡ 0)) [
      | inl less ↦ inr (omega arith)
      | inr more ↦ inl more
    ]

-- other words stay, where the place is 0 or another one
pub before_others : (words : List ℕ) (place before at : ℕ) → (1 ≤ place → at ≢ place)
    → get_or (with_before words place before) at 0 ≡ get_or words at 0
before_others words place before at other =
    elim (some_or_none place)
    as (λ _. get_or (with_before words place before) at 0 ≡ get_or words at 0) [
      | inl some ↦
          ap (λ (ws : List ℕ). get_or ws at 0) (with_before_at words place before some)
          ∙ get_or-set_other words place at
          (link_word before (after_in (get_or words place 0))) 0 (other some)
      | inr none ↦ ap (λ (ws : List ℕ). get_or ws at 0) (with_before_none words place before none)
    ]

pub after_others : (words : List ℕ) (place after at : ℕ) → (1 ≤ place → at ≢ place)
    → get_or (with_after words place after) at 0 ≡ get_or words at 0
after_others words place after at other =
    elim (some_or_none place)
    as (λ _. get_or (with_after words place after) at 0 ≡ get_or words at 0) [
      | inl some ↦
          ap (λ (ws : List ℕ). get_or ws at 0) (with_after_at words place after some)
          ∙ get_or-set_other words place at
          (link_word (before_in (get_or words place 0)) after) 0 (other some)
      | inr none ↦ ap (λ (ws : List ℕ). get_or ws at 0) (with_after_none words place after none)
    ]

pub length_with_before : (words : List ℕ) (place before : ℕ)
    → length (with_before words place before) ≡ length words
length_with_before words place before =
    elim (some_or_none place) as (λ _. length (with_before words place before) ≡ length words) [
      | inl some ↦
          ap (λ (ws : List ℕ). length ws) (with_before_at words place before some)
          ∙ length-set words place (link_word before (after_in (get_or words place 0)))
      | inr none ↦ ap (λ (ws : List ℕ). length ws) (with_before_none words place before none)
    ]

pub length_with_after : (words : List ℕ) (place after : ℕ)
    → length (with_after words place after) ≡ length words
length_with_after words place after =
    elim (some_or_none place) as (λ _. length (with_after words place after) ≡ length words) [
      | inl some ↦
          ap (λ (ws : List ℕ). length ws) (with_after_at words place after some)
          ∙ length-set words place (link_word (before_in (get_or words place 0)) after)
      | inr none ↦ ap (λ (ws : List ℕ). length ws) (with_after_none words place after none)
    ]

-- ---- links
pub first_or_append : (front back : List ℕ) (after : ℕ)
    → first_or (front ++ back) after ≡ first_or front (first_or back after)
first_or_append [] back after = refl
first_or_append (first ∷ front) back after = refl

-- links part where a list does, and join
pub linked_parts : (words : List ℕ) (before : ℕ) (front back : List ℕ) (after : ℕ)
    → AreLinked words before (front ++ back) after
    → AreLinked words before front (first_or back after)
    × AreLinked words (last_or front before) back after
linked_parts words before [] back after linked = (tt, linked)
linked_parts words before (first ∷ front) back after linked =
    let parts = linked_parts words first front back after linked.1 in
    ((linked.0 ∙ ap (link_word before) (first_or_append front back after), parts.0), parts.1)

pub linked_whole : (words : List ℕ) (before : ℕ) (front back : List ℕ) (after : ℕ)
    → AreLinked words before front (first_or back after)
    → AreLinked words (last_or front before) back after
    → AreLinked words before (front ++ back) after
linked_whole words before [] back after one two = two
linked_whole words before (first ∷ front) back after one two = (
  one.0 ∙ ap (link_word before) (sym (first_or_append front back after)),
  linked_whole words first front back after one.1 two,
)

-- they stay where their words do
pub linked_along : (old new : List ℕ) (before : ℕ) (places : List ℕ) (after : ℕ)
    → ((at : ℕ) → has at places ≡ true → get_or new at 0 ≡ get_or old at 0)
    → AreLinked old before places after → AreLinked new before places after
linked_along old new before [] after same linked = tt
linked_along old new before (first ∷ rest) after same linked = (
  same first (has_first first rest) ∙ linked.0,
  linked_along old new first rest after (λ at is. same at (has_more at first rest is)) linked.1,
)

-- the last place is linked to another one after it
pub last_renamed : (words : List ℕ) (before : ℕ) (places : List ℕ) (after other : ℕ)
    → AreDistinct places → AreWithin (length words) places → after < 2 ^ place_bits
    → AreLinked words before places after
    → AreLinked (with_after words (last_or places 0) other) before places other
last_renamed words before [] after other are within small linked = tt
last_renamed words before (first ∷ []) after other are within small linked =
    let some = within first (has_first first []) in (
      ap (λ (ws : List ℕ). get_or ws first 0) (with_after_at words first other some.0)
          ∙ get_or-set_same words first (link_word (before_in (get_or words first 0)) other) 0 some.1
          ∙ ap (λ (b : ℕ). link_word b other)
          (ap before_in linked.0 ∙ before_of before after small),
      tt,
    )
last_renamed words before (first ∷ next ∷ rest) after other are within small linked = (
  after_others words (last_or rest next) other first
      (λ some same. (let not = are.0 in
      let is = ap (λ (p : ℕ). has p (next ∷ rest)) same ∙ has_last_or rest next in cc))
      ∙ linked.0,
  last_renamed words first (next ∷ rest) after other are.1
      (within_rest (length words) first (next ∷ rest) within) small linked.1,
)

-- the first place is linked to another one before it
pub first_renamed : (words : List ℕ) (before other : ℕ) (places : List ℕ)
    → AreDistinct places → AreWithin (length words) places → length words ≤ 2 ^ place_bits
    → AreLinked words before places 0
    → AreLinked (with_before words (first_or places 0) other) other places 0
first_renamed words before other [] are within small linked = tt
first_renamed words before other (first ∷ rest) are within small linked =
    let some = within first (has_first first rest) in
    let next : first_or rest 0 < length words
    = first_or_within (length words) rest (omega (arith, some.1))
    (within_rest (length words) first rest within) in (
      ap (λ (ws : List ℕ). get_or ws first 0) (with_before_at words first other some.0)
          ∙ get_or-set_same words first (link_word other (after_in (get_or words first 0))) 0 some.1
          ∙ ap (link_word other)
          (ap after_in linked.0 ∙ after_of before (first_or rest 0) (omega (arith, next, small))),
      linked_along words (with_before words first other) first rest 0
          (λ at is. before_others words first other at
          (λ _ same. (let not = are.0 in let there = ap (λ (p : ℕ). has p rest) (sym same) ∙ is in cc)))
          linked.1,
    )

-- the head of a list that has not a place is another one
head_other : (places : List ℕ) (place head : ℕ) → has place places ≡ false
    → head ≡ first_or places 0 → 1 ≤ head → place ≡ head → ⊥
head_other [] place head fresh begins some same = omega (arith, begins)
head_other (first ∷ rest) place head fresh begins some same =
    (has_not place first rest fresh).0 (same ∙ begins)

-- ---- a place in front
pub linked_front : (words : List ℕ) (places : List ℕ) (place head : ℕ) → AreDistinct places
    → AreWithin (length words) places → length words ≤ 2 ^ place_bits
    → 1 ≤ place → place < length words → has place places ≡ false
    → head ≡ first_or places 0 → AreLinked words 0 places 0
    → AreLinked (words_linked words place head) 0 (place ∷ places) 0
unfolding words_linked
linked_front words places place head are within small some below fresh begins linked =
    let first : List ℕ = set words place (link_word 0 head) in
    let count : length first ≡ length words = length-set words place (link_word 0 head) in
    let other_head : 1 ≤ head → place ≢ head
    = λ (more : 1 ≤ head) (same : place ≡ head).
    head_other places place head fresh begins more same in
    let kept : AreLinked first 0 places 0
    = linked_along words first 0 places 0
    (λ at is. get_or-set_other words place at (link_word 0 head) 0
    (λ same. (let not = fresh in let there = ap (λ (p : ℕ). has p places) (sym same) ∙ is in cc)))
    linked in (
      before_others first head place place other_head
          ∙ get_or-set_same words place (link_word 0 head) 0 below
          ∙ ap (link_word 0) begins,
      subst (λ (h : ℕ). AreLinked (with_before first h place) place places 0) (sym begins)
          (first_renamed first 0 place places are
          (subst (λ (n : ℕ). AreWithin n places) (sym count) within)
          (omega (arith, count, small)) kept),
    )

-- a place that is neither the one linked nor in the list keeps its word
pub linked_others : (words places : List ℕ) (place head at : ℕ) → head ≡ first_or places 0
    → at ≢ place → has at places ≡ false
    → get_or (words_linked words place head) at 0 ≡ get_or words at 0
unfolding words_linked
linked_others words places place head at begins other none =
    before_others (set words place (link_word 0 head)) head place at
    (λ some same. head_other places at head none begins some same)
    ∙ get_or-set_other words place at (link_word 0 head) 0 other

pub length_words_linked : (words : List ℕ) (place head : ℕ)
    → length (words_linked words place head) ≡ length words
unfolding words_linked
length_words_linked words place head =
    length_with_before (set words place (link_word 0 head)) head place
    ∙ length-set words place (link_word 0 head)

-- the two steps of a link
pub words_linked_by : (words one two : List ℕ) (place head : ℕ)
    → one ≡ set words place (link_word 0 head) → two ≡ with_before one head place
    → two ≡ words_linked words place head
unfolding words_linked
words_linked_by words one two place head first second =
    second ∙ ap (λ (ws : List ℕ). with_before ws head place) first

-- a place that is linked in front of no other gets a link of 0
pub words_linked_alone : (words : List ℕ) (place head : ℕ) → head ≡ 0
    → set words place 0 ≡ words_linked words place head
unfolding words_linked
words_linked_alone words place head none =
    sym (with_before_none (set words place (link_word 0 head)) head place none
    ∙ ap (λ (h : ℕ). set words place (link_word 0 h)) none)
