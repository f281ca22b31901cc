-- A place is taken out of a list that words link: what becomes of the words and of the list's head.
use Rattle.std.proofs.Common.{◌≡◌, ◌≢◌, ℕ, ◌^◌, ◌<◌, ◌≤◌, Bool, true, false, if◌then◌else◌, List, [], ◌∷◌, ◌++◌, length, get_or, set, refl, ap, sym, ◌∙◌, subst, arith}
use Rattle.std.proofs.lemmas.Bool.{eq-eqb, ne_eqb}
use Rattle.std.proofs.lemmas.List.{get_or-set_same}
use Rattle.l6_store.specs.Numerals.{place_bits}
use Rattle.l6_store.specs.Buddy.{has, without, first_or}
use Rattle.l6_store.specs.Links.{AreLinked}
use Rattle.l6_store.specs.inner.Chains.{before_in, after_in, with_before, with_after, with_head, words_unlinked}
use Rattle.l6_store.specs.inner.ArenaLayout.{AreDistinct}
use Rattle.l6_store.proofs.Counts.{has_first, has_more}
use Rattle.l6_store.proofs.PlaceLists.{has_front, has_back, last_or, has_last_or, AreWithin, within_rest, first_or_within, Split, split, distinct_front, distinct_back, distinct_apart}
use Rattle.l6_store.proofs.Chains.{before_of, after_of, with_after_none, with_before_none, before_others, after_others, length_with_before, length_with_after, linked_parts, linked_whole, linked_along, last_renamed, first_renamed}

-- what its link says
pub record Around (words : List ℕ) (place : ℕ) (places : List ℕ) : Type 0 where
  pub parts : Split place places
  pub before_is : before_in (get_or words place 0) ≡ last_or parts.front 0
  pub after_is : after_in (get_or words place 0) ≡ first_or parts.back 0
  pub linked_front : AreLinked words 0 parts.front place
  pub linked_back : AreLinked words place parts.back 0

within_back : (bound : ℕ) (front back : List ℕ) → AreWithin bound (front ++ back)
    → AreWithin bound back
within_back bound front back are place is = are place (has_back place front back is)

within_front : (bound : ℕ) (front back : List ℕ) → AreWithin bound (front ++ back)
    → AreWithin bound front
within_front bound front back are place is = are place (has_front place front back is)

pub around : (words : List ℕ) (place : ℕ) (places : List ℕ) → has place places ≡ true
    → AreWithin (length words) places → length words ≤ 2 ^ place_bits
    → AreLinked words 0 places 0 → Around words place places
around words place places is within small linked =
    let parts = split place places is in
    let whole : AreLinked words 0 (parts.front ++ place ∷ parts.back) 0
    = subst (λ (ps : List ℕ). AreLinked words 0 ps 0) parts.is linked in
    let two = linked_parts words 0 parts.front (place ∷ parts.back) 0 whole in
    let inside : AreWithin (length words) (parts.front ++ place ∷ parts.back)
    = subst (AreWithin (length words)) parts.is within in
    let following = within_back (length words) parts.front (place ∷ parts.back) inside in
    let some = following place (has_first place parts.back) in
    let next : first_or parts.back 0 < length words
    = first_or_within (length words) parts.back (omega (arith, some.1))
    (within_rest (length words) place parts.back following) in
    record {
      parts = parts;
      before_is = ap before_in two.1.0
          ∙ before_of (last_or parts.front 0) (first_or parts.back 0) (omega (arith, next, small));
      after_is = ap after_in two.1.0
          ∙ after_of (last_or parts.front 0) (first_or parts.back 0) (omega (arith, next, small));
      linked_front = two.0;
      linked_back = two.1.1;
    }

-- the last of a list that is not 0 is in it
last_in : (places : List ℕ) → 1 ≤ last_or places 0 → has (last_or places 0) places ≡ true
last_in [] some = absurd (omega arith)
last_in (first ∷ rest) some = has_last_or rest first

first_in : (places : List ℕ) → 1 ≤ first_or places 0 → has (first_or places 0) places ≡ true
first_in [] some = absurd (omega arith)
first_in (first ∷ rest) some = has_first first rest

-- the places that are linked are among the words
pub last_within : (bound : ℕ) (front : List ℕ) → 0 < bound → AreWithin bound front
    → last_or front 0 < bound
last_within bound [] some are = some
last_within bound (first ∷ rest) some are = (are (last_or rest first) (has_last_or rest first)).1

pub around_within : (words : List ℕ) (place : ℕ) (places : List ℕ) → 0 < length words
    → AreWithin (length words) places → (ends : Around words place places)
    → (before_in (get_or words place 0) < length words)
    × (after_in (get_or words place 0) < length words)
around_within words place places some within ends =
    let inside : AreWithin (length words) (ends.parts.front ++ place ∷ ends.parts.back)
    = subst (AreWithin (length words)) ends.parts.is within in (
      omega (
        arith,
        ends.before_is,
        last_within (length words) ends.parts.front some
            (within_front (length words) ends.parts.front (place ∷ ends.parts.back) inside),
      ),
      omega (
        arith,
        ends.after_is,
        first_or_within (length words) ends.parts.back some
            (within_rest (length words) place ends.parts.back
            (within_back (length words) ends.parts.front (place ∷ ends.parts.back) inside)),
      ),
    )

-- the two ends round the gap are linked to each other
pub taken_apart : (words : List ℕ) (front back : List ℕ) (place : ℕ)
    → AreDistinct (front ++ place ∷ back) → AreWithin (length words) (front ++ place ∷ back)
    → length words ≤ 2 ^ place_bits
    → AreLinked words 0 front place → AreLinked words place back 0
    → AreLinked (with_before (with_after words (last_or front 0) (first_or back 0))
    (first_or back 0) (last_or front 0)) 0 (front ++ back) 0
taken_apart words front back place are within small one two =
    let last : ℕ = last_or front 0 in
    let first : ℕ = first_or back 0 in
    let middle : List ℕ = with_after words last first in
    let count : length middle ≡ length words = length_with_after words last first in
    let following = within_back (length words) front (place ∷ back) within in
    let back_within = within_rest (length words) place back following in
    let back_are : AreDistinct back = (distinct_back front (place ∷ back) are).1 in
    let place_small : place < 2 ^ place_bits
    = omega (arith, (following place (has_first place back)).1, small) in
    let front_middle : AreLinked middle 0 front first
    = last_renamed words 0 front place first (distinct_front front (place ∷ back) are)
    (within_front (length words) front (place ∷ back) within) place_small one in
    let back_middle : AreLinked middle place back 0
    = linked_along words middle place back 0
    (λ at is. after_others words last first at
    (λ some same. distinct_apart front (place ∷ back) at are
    (ap (λ (p : ℕ). has p front) same ∙ last_in front some) (has_more at place back is)))
    two in
    let back_new : AreLinked (with_before middle first last) last back 0
    = first_renamed middle place last back back_are
    (subst (λ (n : ℕ). AreWithin n back) (sym count) back_within) (omega (arith, count, small))
    back_middle in
    let front_new : AreLinked (with_before middle first last) 0 front first
    = linked_along middle (with_before middle first last) 0 front first
    (λ at is. before_others middle first last at
    (λ some same. distinct_apart front (place ∷ back) at are is
    (has_more at place back (ap (λ (p : ℕ). has p back) same ∙ first_in back some))))
    front_middle in
    linked_whole (with_before middle first last) 0 front back 0 front_new back_new

pub unlinked : (words places : List ℕ) (place : ℕ) → has place places ≡ true
    → AreDistinct places → AreWithin (length words) places → length words ≤ 2 ^ place_bits
    → AreLinked words 0 places 0
    → AreLinked (words_unlinked words place) 0 (without place places) 0
unfolding words_unlinked
unlinked words places place is are within small linked =
    let ends = around words place places is within small linked in
    let front : List ℕ = ends.parts.front in
    let back : List ℕ = ends.parts.back in
    subst (λ (ps : List ℕ). AreLinked (words_unlinked words place) 0 ps 0) (sym ends.parts.left)
    (subst (λ (b : ℕ). AreLinked (with_before
    (with_after words b (after_in (get_or words place 0)))
    (after_in (get_or words place 0)) b) 0 (front ++ back) 0) (sym ends.before_is)
    (subst (λ (a : ℕ). AreLinked (with_before (with_after words (last_or front 0) a) a
    (last_or front 0)) 0 (front ++ back) 0) (sym ends.after_is)
    (taken_apart words front back place (subst AreDistinct ends.parts.is are)
    (subst (AreWithin (length words)) ends.parts.is within) small ends.linked_front
    ends.linked_back)))

-- a place that is not in the list keeps its word
pub unlinked_others : (words places : List ℕ) (place at : ℕ) → has place places ≡ true
    → AreWithin (length words) places → length words ≤ 2 ^ place_bits
    → AreLinked words 0 places 0 → has at places ≡ false
    → get_or (words_unlinked words place) at 0 ≡ get_or words at 0
unfolding words_unlinked
unlinked_others words places place at is within small linked none =
    let ends = around words place places is within small linked in
    let front : List ℕ = ends.parts.front in
    let back : List ℕ = ends.parts.back in
    let word : ℕ = get_or words place 0 in
    let outside : (p : ℕ) → has p (front ++ place ∷ back) ≡ true → at ≢ p
    = λ (p : ℕ) (there : has p (front ++ place ∷ back) ≡ true) (same : at ≡ p).
    (let found : has at places ≡ true = ap (has at) ends.parts.is
    ∙ ap (λ (q : ℕ). has q (front ++ place ∷ back)) same ∙ there in let not = none in cc) in
    before_others (with_after words (before_in word) (after_in word)) (after_in word)
    (before_in word) at
    (λ some. outside (after_in word)
    (ap (λ (q : ℕ). has q (front ++ place ∷ back)) ends.after_is
    ∙ has_back (first_or back 0) front (place ∷ back)
    (has_more (first_or back 0) place back
    (first_in back (subst (λ (q : ℕ). 1 ≤ q) ends.after_is some)))))
    ∙ after_others words (before_in word) (after_in word) at
    (λ some. outside (before_in word)
    (ap (λ (q : ℕ). has q (front ++ place ∷ back)) ends.before_is
    ∙ has_front (last_or front 0) front (place ∷ back)
    (last_in front (subst (λ (q : ℕ). 1 ≤ q) ends.before_is some))))

pub length_words_unlinked : (words : List ℕ) (place : ℕ)
    → length (words_unlinked words place) ≡ length words
unfolding words_unlinked
length_words_unlinked words place =
    let word : ℕ = get_or words place 0 in
    length_with_before (with_after words (before_in word) (after_in word)) (after_in word)
    (before_in word)
    ∙ length_with_after words (before_in word) (after_in word)

head_by : (heads : List ℕ) (level : ℕ) (front back : List ℕ) (place bound : ℕ)
    → AreWithin bound (front ++ place ∷ back) → level < length heads
    → get_or heads level 0 ≡ first_or (front ++ place ∷ back) 0
    → get_or (with_head heads level (last_or front 0) (first_or back 0)) level 0
    ≡ first_or (front ++ back) 0
unfolding with_head
head_by heads level [] back place bound within room begins =
    get_or-set_same heads level (first_or back 0) 0 room
head_by heads level (first ∷ front) back place bound within room begins =
    let some : 1 ≤ last_or front first
    = (within (last_or front first) (has_front (last_or front first) (first ∷ front) (place ∷ back)
    (has_last_or front first))).0 in
    ap (λ (b : Bool). get_or (if b then set heads level (first_or back 0) else heads) level 0)
    (ne_eqb (last_or front first) 0 (λ none. absurd (omega arith)))
    ∙ begins

-- the head of a list after a place was taken out of it
pub head_unlinked : (words places heads : List ℕ) (level place : ℕ) → has place places ≡ true
    → AreWithin (length words) places → length words ≤ 2 ^ place_bits
    → AreLinked words 0 places 0 → level < length heads
    → get_or heads level 0 ≡ first_or places 0
    → get_or (with_head heads level (before_in (get_or words place 0))
    (after_in (get_or words place 0))) level 0 ≡ first_or (without place places) 0
head_unlinked words places heads level place is within small linked room begins =
    let ends = around words place places is within small linked in
    let inside : AreWithin (length words) (ends.parts.front ++ place ∷ ends.parts.back)
    = subst (AreWithin (length words)) ends.parts.is within in
    ap (λ (b : ℕ). get_or (with_head heads level b (after_in (get_or words place 0))) level 0)
    ends.before_is
    ∙ ap (λ (a : ℕ). get_or (with_head heads level (last_or ends.parts.front 0) a) level 0)
    ends.after_is
    ∙ head_by heads level ends.parts.front ends.parts.back place (length words) inside room
    (begins ∙ ap (λ (ps : List ℕ). first_or ps 0) ends.parts.is)
    ∙ ap (λ (ps : List ℕ). first_or ps 0) (sym ends.parts.left)

-- the heads after the first of a list has changed, and after another place has
pub with_head_none : (heads : List ℕ) (level before after : ℕ) → before ≡ 0
    → with_head heads level before after ≡ set heads level after
unfolding with_head
with_head_none heads level before after none =
    ap (λ (b : Bool). if b then set heads level after else heads) (eq-eqb before 0 none)

pub with_head_some : (heads : List ℕ) (level before after : ℕ) → 1 ≤ before
    → with_head heads level before after ≡ heads
unfolding with_head
with_head_some heads level before after some =
    ap (λ (b : Bool). if b then set heads level after else heads)
    (ne_eqb before 0 (λ none. absurd (omega arith)))

-- the two steps of taking a place out
pub words_unlinked_by : (words one two : List ℕ) (place before after : ℕ)
    → before ≡ before_in (get_or words place 0) → after ≡ after_in (get_or words place 0)
    → one ≡ with_after words before after → two ≡ with_before one after before
    → two ≡ words_unlinked words place
unfolding words_unlinked
words_unlinked_by words one two place before after is_before is_after first second =
    second ∙ ap (λ (ws : List ℕ). with_before ws after before) first
    ∙ ap (λ (b : ℕ). with_before (with_after words b after) after b) is_before
    ∙ ap (λ (a : ℕ). with_before (with_after words (before_in (get_or words place 0)) a) a
    (before_in (get_or words place 0))) is_after

-- of the first place of a list, with none before it, only the one after it changes, and the head
pub words_unlinked_first : (words : List ℕ) (place : ℕ) → before_in (get_or words place 0) ≡ 0
    → with_before words (after_in (get_or words place 0)) 0 ≡ words_unlinked words place
unfolding words_unlinked
words_unlinked_first words place first =
    let word : ℕ = get_or words place 0 in
    sym (ap (λ (b : ℕ). with_before (with_after words b (after_in word)) (after_in word) b) first
    ∙ ap (λ (ws : List ℕ). with_before ws (after_in word) 0)
    (with_after_none words 0 (after_in word) refl))

pub with_head_first : (heads : List ℕ) (level before after : ℕ) → before ≡ 0
    → set heads level after ≡ with_head heads level before after
unfolding with_head
with_head_first heads level before after first =
    sym (ap (λ (b : Bool). if b then set heads level after else heads) (eq-eqb before 0 first))

-- a place whose link is 0 is alone in its list, so no other word changes
pub words_unlinked_alone : (words : List ℕ) (place : ℕ) → get_or words place 0 ≡ 0
    → words ≡ words_unlinked words place
unfolding words_unlinked
words_unlinked_alone words place alone =
    let before : ℕ = before_in (get_or words place 0) in
    let after : ℕ = after_in (get_or words place 0) in
    sym (with_before_none (with_after words before after) after before (ap after_in alone)
    ∙ with_after_none words before after (ap before_in alone))
