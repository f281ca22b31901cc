-- What each change of an arena does to its layout.
use Rattle.std.proofs.Common.{◌≡◌, ◌≢◌, ℕ, ◌+◌, ◌^◌, ◌<◌, ◌≤◌, false, List, length, get_or, set, refl, ap, sym, ◌∙◌, subst, arith, inl, inr, ◌⊎◌}
use Rattle.std.specs.List.{slice_range, All}
use Rattle.std.proofs.lemmas.Bool.{cases_lt, cases_eq, cases_Bool}
use Rattle.std.proofs.lemmas.Nat.{pow_pos}
use Rattle.std.proofs.lemmas.List.{get_or-set_same, get_or-set_other, get_or_past, length-set}
use Rattle.std.proofs.lemmas.List.Elements.{All-set, All-get_or}
use Rattle.l6_word.specs.Numerals.{largest_level, word_bits}
use Rattle.l6_store.specs.Numerals.{place_bits, most_units}
use Rattle.l6_store.specs.Blocks.{Blocks, Fits, LiesIn, IsAlignedPlace, end_of}
use Rattle.l6_store.specs.Rule.{Order}
use Rattle.l6_store.specs.Buddy.{has, listed, IsListed, in_front, taken_out}
use Rattle.l6_store.specs.Links.{link_word}
use Rattle.l6_store.specs.inner.Chains.{before_in, after_in, with_before, with_after, with_head, words_linked, words_unlinked, order_of}
use Rattle.l6_store.specs.inner.ArenaLayout.{AreBeside, AreLists, IsArena, IsSoundLayout, blocks_of, layout_of, place_tag_at, tag_of}
use Rattle.l6_store.specs.declared.place_tag.PlaceTag.{PlaceTag}
use Rattle.l6_store.specs.declared.place_tag.PlaceTag.TheVariants.{Inner, Block, Listed}
use Rattle.l6_store.specs.declared.tag.Tag.TheVariants.{Free}
use Rattle.l6_store.proofs.ListedPieces.{the_one, another, in_front_listed, taken_out_listed}
use Rattle.l6_store.proofs.Chains.{with_before_at, with_before_none, with_after_at, with_after_none, linked_along, length_words_linked, linked_others}
use Rattle.l6_store.proofs.Unlinking.{length_words_unlinked, unlinked_others, around, around_within}
use Rattle.l6_store.proofs.PlaceLists.{first_or_within, AreWithin}
use Rattle.l6_store.proofs.Lists.{few}
use Rattle.l6_store.proofs.Linking.{lists_within, lists_show, lists-linked, lists-unlinked}
use Rattle.l6_store.proofs.Tagged.{block_here, tagged_lies, same_blocks}

-- ---- words
abbrev pub AreWords : List ℕ → Type 0
AreWords words = All (λ word. word < 2 ^ word_bits) words

cases_place : (place : ℕ) → (1 ≤ place) ⊎ (place ≡ 0)
cases_place place =
    elim (cases_lt place 1) as (λ _. (1 ≤ place) ⊎ (place ≡ 0)) [
      | inl less ↦ inr (omega arith)
      | inr more ↦ inl more
    ]

word_below : (words : List ℕ) (place : ℕ) → AreWords words → get_or words place 0 < 2 ^ word_bits
word_below words place are =
    elim (cases_lt place (length words)) as (λ _. get_or words place 0 < 2 ^ word_bits) [
      | inl below ↦ All-get_or (λ word. word < 2 ^ word_bits) words place 0 below are
      | inr past ↦ omega (arith, get_or_past words place 0 past)
    ]

words_with_before : (words : List ℕ) (place before : ℕ) → before < 2 ^ place_bits
    → AreWords words → AreWords (with_before words place before)
words_with_before words place before small are =
    elim (cases_place place) as (λ _. AreWords (with_before words place before)) [
      | inl some ↦
          subst AreWords (sym (with_before_at words place before some))
          (All-set (λ word. word < 2 ^ word_bits) words place
          (link_word before (after_in (get_or words place 0))) (omega arith) are)
      | inr none ↦ subst AreWords (sym (with_before_none words place before none)) are
    ]

words_with_after : (words : List ℕ) (place after : ℕ) → after < 2 ^ place_bits
    → AreWords words → AreWords (with_after words place after)
words_with_after words place after small are =
    let word = word_below words place are in
    elim (cases_place place) as (λ _. AreWords (with_after words place after)) [
      | inl some ↦
          subst AreWords (sym (with_after_at words place after some))
          (All-set (λ word. word < 2 ^ word_bits) words place
          (link_word (before_in (get_or words place 0)) after) (omega arith) are)
      | inr none ↦ subst AreWords (sym (with_after_none words place after none)) are
    ]

words_words_linked : (words : List ℕ) (place head : ℕ) → place < 2 ^ place_bits
    → head < 2 ^ place_bits → AreWords words → AreWords (words_linked words place head)
unfolding words_linked
words_words_linked words place head place_small head_small are =
    words_with_before (set words place (link_word 0 head)) head place place_small
    (All-set (λ word. word < 2 ^ word_bits) words place (link_word 0 head) (omega arith) are)

words_words_unlinked : (words : List ℕ) (place : ℕ) → AreWords words
    → AreWords (words_unlinked words place)
unfolding words_unlinked
words_words_unlinked words place are =
    let word : ℕ = get_or words place 0 in
    let fits = word_below words place are in
    words_with_before (with_after words (before_in word) (after_in word)) (after_in word)
    (before_in word) (omega arith)
    (words_with_after words (before_in word) (after_in word) (omega arith) are)

-- ---- an arena, put together
pub places_small : (units : ℕ) → units ≤ most_units → end_of units ≤ 2 ^ place_bits
places_small units most = omega arith

module _ (units : ℕ) (words heads : List ℕ) (place_tags : List PlaceTag) (order : Order)
    (blocks : Blocks)
    (some : 1 ≤ units) (most : units ≤ most_units) (filled : length words ≡ end_of units)
    (count : length place_tags ≡ end_of units) (lists : AreLists words heads place_tags order)
    (is : blocks_of place_tags words ≡ blocks)
    (is_aligned : (level place : ℕ) → place_tag_at place_tags place ≡ Block level →
    IsAlignedPlace units level place)
    (fits : Fits units blocks) (are_words : AreWords words) (beside : AreBeside blocks order) where
  pub order_known : order_of words heads ≡ order
  order_known = lists_show words heads place_tags order lists (count ∙ sym filled)
      (omega (arith, filled, places_small units most))

  pub laid : IsArena units words place_tags heads
  laid = record {
    some = some;
    most = most;
    filled = filled;
    count = count;
    are_lists = subst (λ (o : Order). AreLists words heads place_tags o) (sym order_known) lists;
    are_blocks = record {
      is_aligned = is_aligned;
      fits = subst (λ (b : Blocks). Fits units b) (sym is) fits;
      are_words = are_words;
    };
    beside = subst (λ (b : Blocks). AreBeside b (order_of words heads)) (sym is)
        (subst (λ (o : Order). AreBeside blocks o) (sym order_known) beside);
  }

pub sound : (units : ℕ) (words heads : List ℕ) (place_tags : List PlaceTag) →
    IsArena units words place_tags heads
    → IsSoundLayout (layout_of units words place_tags heads)
sound units words heads place_tags laid = record {
  some = laid.some;
  most = laid.most;
  fits = laid.are_blocks.fits;
  links = laid.are_lists.links;
  filled = laid.filled;
  are_at_their_places = λ place live.
      let here = block_here units place_tags words laid.filled laid.are_blocks.is_aligned place live in
      here.words_are ∙ ap (λ (n : ℕ). slice_range words place (place + n)) (sym here.size);
  levels = laid.are_lists.levels;
  distinct = laid.are_lists.distinct;
  few = λ level.
      few (length words) (listed (order_of words heads) level) (laid.are_lists.distinct level)
      (lists_within words heads place_tags (order_of words heads) laid.are_lists
      (laid.count ∙ sym laid.filled) level);
}

-- a tag changes, and no other
pub place_tag_same : (place_tags : List PlaceTag) (place q : ℕ) (place_tag : PlaceTag) → q ≢ place
    → place_tag_at (set place_tags place place_tag) q ≡ place_tag_at place_tags q
place_tag_same place_tags place q place_tag other =
    get_or-set_other place_tags place q place_tag Inner other

-- a place that no block has is tagged as no block
no_block_tag : (place_tags : List PlaceTag) (place : ℕ) (place_tag : PlaceTag) →
    place_tag_at place_tags place ≡ place_tag
    → ((level : ℕ) → place_tag_at place_tags place ≡ Block level → ⊥) →
    tag_of (place_tag_at place_tags place) ≡ Free
no_block_tag place_tags place Inner is not = ap tag_of is
no_block_tag place_tags place (Listed level) is not = ap tag_of is
no_block_tag place_tags place (Block level) is not = absurd (not level is)

module _ (units : ℕ) (words heads : List ℕ) (place_tags : List PlaceTag)
    (were : IsArena units words place_tags heads) where
  pub small : length words ≤ 2 ^ place_bits
  small = omega (arith, were.filled, places_small units were.most)

  pub counts : length place_tags ≡ length words
  counts = were.count ∙ sym were.filled

  pub within : (level : ℕ) → AreWithin (length words) (listed (order_of words heads) level)
  within = lists_within words heads place_tags (order_of words heads) were.are_lists counts

  pub head_within : (level : ℕ) → get_or heads level 0 < length words
  head_within level =
      omega (
        arith,
        were.are_lists.links.begun level,
        were.filled,
        were.some,
        first_or_within (length words) (listed (order_of words heads) level)
            (omega (arith, were.filled)) (within level),
      )

  unlisted : (level at : ℕ) → LiesIn (blocks_of place_tags words) at
      → has at (listed (order_of words heads) level) ≡ false
  unlisted level at lies =
      elim (cases_Bool (has at (listed (order_of words heads) level)))
      as (λ _. has at (listed (order_of words heads) level) ≡ false) [
        | inl is ↦ absurd (were.beside level at is lies)
        | inr absent ↦ absent
      ]

  -- ---- a piece is linked
  module _ (level place : ℕ) (level_small : level ≤ largest_level) (some : 1 ≤ place)
      (below : place < end_of units)
      (fresh : (k : ℕ) → IsListed (order_of words heads) k place → ⊥)
      (beside : LiesIn (blocks_of place_tags words) place → ⊥) where
    linked_lists : AreLists (words_linked words place (get_or heads level 0)) (set heads level place)
        (set place_tags place (Listed level)) (in_front (order_of words heads) level place)
    linked_lists = lists-linked words heads place_tags
        (order_of words heads) were.are_lists counts small
        level place (get_or heads level 0) level_small some (omega (arith, were.filled)) fresh refl

    linked_count : length (words_linked words place (get_or heads level 0)) ≡ length words
    linked_count = length_words_linked words place (get_or heads level 0)

    place_tags_count : length (set place_tags place (Listed level)) ≡ end_of units
    place_tags_count = length-set place_tags place (Listed level) ∙ were.count

    not_block : (k : ℕ) → place_tag_at place_tags place ≡ Block k → ⊥
    not_block k is = beside
        (tagged_lies units place_tags words were.filled were.are_blocks.is_aligned k place
        place is (omega arith) (omega (arith, pow_pos k)))

    pub none_begins : tag_of (place_tag_at place_tags place) ≡ Free
    none_begins = no_block_tag place_tags place (place_tag_at place_tags place) refl not_block

    linked_tags : (q : ℕ) → tag_of (place_tag_at (set place_tags place (Listed level)) q)
        ≡ tag_of (place_tag_at place_tags q)
    linked_tags q =
        elim (cases_eq q place)
        as (λ _. tag_of (place_tag_at (set place_tags place (Listed level)) q)
        ≡ tag_of (place_tag_at place_tags q)) [
          | inl same ↦
              ap (λ (p : ℕ). tag_of (place_tag_at (set place_tags place (Listed level)) p)) same
              ∙ ap tag_of (get_or-set_same place_tags place (Listed level) Inner
              (omega (arith, were.count)))
              ∙ sym (ap (λ (p : ℕ). tag_of (place_tag_at place_tags p)) same
              ∙ none_begins)
          | inr other ↦ ap tag_of (place_tag_same place_tags place q (Listed level) other)
        ]

    pub linked_blocks : blocks_of (set place_tags place (Listed level))
        (words_linked words place (get_or heads level 0)) ≡ blocks_of place_tags words
    linked_blocks = same_blocks units place_tags (set place_tags place (Listed level)) words
        (words_linked words place (get_or heads level 0)) were.filled linked_count
        were.are_blocks.is_aligned linked_tags
        (λ at lies. linked_others words (listed (order_of words heads) level) place
        (get_or heads level 0) at (were.are_lists.links.begun level)
        (λ same. beside (subst (λ (p : ℕ). LiesIn (blocks_of place_tags words) p) same lies))
        (unlisted level at lies))

    linked_holds : (k q : ℕ) → place_tag_at (set place_tags place (Listed level)) q ≡ Block k
        → IsAlignedPlace units k q
    linked_holds k q is =
        elim (cases_eq q place) as (λ _. IsAlignedPlace units k q) [
          | inl same ↦
              let new = get_or-set_same place_tags place (Listed level) Inner
              (omega (arith, were.count)) in
              let there = ap (place_tag_at (set place_tags place (Listed level))) same in
              cc
          | inr other ↦ were.are_blocks.is_aligned k q
              (sym (place_tag_same place_tags place q (Listed level) other)
              ∙ is)
        ]

    linked_beside : AreBeside (blocks_of place_tags words) (in_front (order_of words heads) level place)
    linked_beside k q is lies =
        elim (in_front_listed (order_of words heads) level place k q
        (omega (arith, were.are_lists.levels)) is) as (λ _. ⊥) [
          | the_one same here ↦
              beside (subst (λ (p : ℕ). LiesIn (blocks_of place_tags words) p) here lies)
          | another was ↦ were.beside k q was lies
        ]

    linked_words : AreWords (words_linked words place (get_or heads level 0))
    linked_words = words_words_linked words place (get_or heads level 0)
        (omega (arith, places_small units were.most))
        (omega (arith, head_within level, small)) were.are_blocks.are_words

    pub linked_order : order_of (words_linked words place (get_or heads level 0))
        (set heads level place) ≡ in_front (order_of words heads) level place
    linked_order = order_known units (words_linked words place (get_or heads level 0))
        (set heads level place) (set place_tags place (Listed level))
        (in_front (order_of words heads) level place) (blocks_of place_tags words) were.some were.most
        (linked_count ∙ were.filled) place_tags_count linked_lists linked_blocks linked_holds
        were.are_blocks.fits linked_words linked_beside

    pub linked_laid : IsArena units (words_linked words place (get_or heads level 0))
        (set place_tags place (Listed level)) (set heads level place)
    linked_laid = laid units (words_linked words place (get_or heads level 0))
        (set heads level place) (set place_tags place (Listed level))
        (in_front (order_of words heads) level place) (blocks_of place_tags words) were.some were.most
        (linked_count ∙ were.filled) place_tags_count linked_lists linked_blocks linked_holds
        were.are_blocks.fits linked_words linked_beside

  -- ---- a piece is taken out of its list
  module _ (level place : ℕ) (level_small : level ≤ largest_level)
      (there : IsListed (order_of words heads) level place) where
    pub place_within : place < length words
    place_within = (within level place there).1

    out_lists : AreLists (words_unlinked words place)
        (with_head heads level (before_in (get_or words place 0)) (after_in (get_or words place 0)))
        (set place_tags place Inner) (taken_out (order_of words heads) level place)
    out_lists = lists-unlinked words heads place_tags (order_of words heads) were.are_lists counts small
        level place there level_small

    out_count : length (words_unlinked words place) ≡ length words
    out_count = length_words_unlinked words place

    out_place_tags_count : length (set place_tags place Inner) ≡ end_of units
    out_place_tags_count = length-set place_tags place Inner ∙ were.count

    out_tags : (q : ℕ) → tag_of (place_tag_at (set place_tags place Inner) q)
        ≡ tag_of (place_tag_at place_tags q)
    out_tags q =
        elim (cases_eq q place)
        as (λ _. tag_of (place_tag_at (set place_tags place Inner) q)
        ≡ tag_of (place_tag_at place_tags q)) [
          | inl same ↦
              ap (λ (p : ℕ). tag_of (place_tag_at (set place_tags place Inner) p)) same
              ∙ ap tag_of (get_or-set_same place_tags place Inner Inner
              (omega (arith, counts, place_within)))
              ∙ sym (ap (λ (p : ℕ). tag_of (place_tag_at place_tags p)) same
              ∙ ap tag_of (were.are_lists.with_tag level place there))
          | inr other ↦ ap tag_of (place_tag_same place_tags place q Inner other)
        ]

    pub out_blocks : blocks_of (set place_tags place Inner) (words_unlinked words place)
        ≡ blocks_of place_tags words
    out_blocks = same_blocks units place_tags (set place_tags place Inner) words
        (words_unlinked words place)
        were.filled out_count were.are_blocks.is_aligned out_tags
        (λ at lies. unlinked_others words (listed (order_of words heads) level) place at there
        (within level) small (were.are_lists.links.linked level) (unlisted level at lies))

    out_holds : (k q : ℕ) → place_tag_at (set place_tags place Inner) q ≡ Block k →
        IsAlignedPlace units k q
    out_holds k q is =
        elim (cases_eq q place) as (λ _. IsAlignedPlace units k q) [
          | inl same ↦
              let new = get_or-set_same place_tags place Inner Inner
              (omega (arith, counts, place_within)) in
              let here = ap (place_tag_at (set place_tags place Inner)) same in
              cc
          | inr other ↦ were.are_blocks.is_aligned k q
              (sym (place_tag_same place_tags place q Inner other) ∙ is)
        ]

    out_beside : AreBeside (blocks_of place_tags words) (taken_out (order_of words heads) level place)
    out_beside k q is lies =
        were.beside k q (taken_out_listed (order_of words heads) level place k q
        (omega (arith, were.are_lists.levels)) is) lies

    pub out_order : order_of (words_unlinked words place)
        (with_head heads level (before_in (get_or words place 0)) (after_in (get_or words place 0)))
        ≡ taken_out (order_of words heads) level place
    out_order = order_known units (words_unlinked words place)
        (with_head heads level (before_in (get_or words place 0)) (after_in (get_or words place 0)))
        (set place_tags place Inner) (taken_out (order_of words heads) level place)
        (blocks_of place_tags words)
        were.some were.most (out_count ∙ were.filled) out_place_tags_count out_lists out_blocks
        out_holds
        were.are_blocks.fits (words_words_unlinked words place were.are_blocks.are_words) out_beside

    pub out_laid : IsArena units (words_unlinked words place) (set place_tags place Inner)
        (with_head heads level (before_in (get_or words place 0)) (after_in (get_or words place 0)))
    out_laid = laid units (words_unlinked words place)
        (with_head heads level (before_in (get_or words place 0)) (after_in (get_or words place 0)))
        (set place_tags place Inner) (taken_out (order_of words heads) level place)
        (blocks_of place_tags words)
        were.some were.most (out_count ∙ were.filled) out_place_tags_count out_lists out_blocks
        out_holds
        were.are_blocks.fits (words_words_unlinked words place were.are_blocks.are_words) out_beside

    -- the places around it are among the words
    pub around_is : (before_in (get_or words place 0) < length words)
        × (after_in (get_or words place 0) < length words)
    around_is = around_within words place (listed (order_of words heads) level)
        (omega (arith, were.filled)) (within level)
        (around words place (listed (order_of words heads) level) there (within level) small
        (were.are_lists.links.linked level))

  -- ---- words of blocks change, and tags of blocks
  -- the lists stay where no word of a listed place and no tag of one changes
  module _ (new : List ℕ) (after : List PlaceTag) (blocks : Blocks)
      (new_count : length new ≡ length words) (after_count : length after ≡ length place_tags)
      (same : (level at : ℕ) → IsListed (order_of words heads) level at
      → get_or new at 0 ≡ get_or words at 0)
      (listed_same : (at : ℕ) → (place_tag_at after at ≡ place_tag_at place_tags at)
      ⊎ (((level : ℕ) → place_tag_at after at ≡ Listed level → ⊥)
      × ((level : ℕ) → place_tag_at place_tags at ≡ Listed level → ⊥)))
      (none_same : place_tag_at after 0 ≡ Inner)
      (is_aligned : (level place : ℕ) → place_tag_at after place ≡ Block level →
      IsAlignedPlace units level place)
      (is : blocks_of after new ≡ blocks) (fits : Fits units blocks) (are_words : AreWords new)
      (beside : AreBeside blocks (order_of words heads)) where
    kept_lists : AreLists new heads after (order_of words heads)
    kept_lists = record {
      levels = were.are_lists.levels;
      links = record {
        count = were.are_lists.links.count;
        begun = were.are_lists.links.begun;
        linked = λ level. linked_along words new 0 (listed (order_of words heads) level) 0
            (λ at there. same level at there) (were.are_lists.links.linked level);
      };
      distinct = were.are_lists.distinct;
      with_tag = λ level place there.
          let was = were.are_lists.with_tag level place there in
          elim (listed_same place) as (λ _. place_tag_at after place ≡ Listed level) [
            | inl alike ↦ alike ∙ was
            | inr (_, not) ↦ absurd (not level was)
          ];
      determined = λ level place place_tag.
          elim (listed_same place) as (λ _. IsListed (order_of words heads) level place) [
            | inl alike ↦ were.are_lists.determined level place (sym alike ∙ place_tag)
            | inr (not, _) ↦ absurd (not level place_tag)
          ];
      none = none_same;
    }

    pub kept_order : order_of new heads ≡ order_of words heads
    kept_order = order_known units new heads after (order_of words heads) blocks were.some were.most
        (new_count ∙ were.filled) (after_count ∙ were.count) kept_lists is is_aligned fits are_words
        beside

    pub kept_laid : IsArena units new after heads
    kept_laid = laid units new heads after (order_of words heads) blocks were.some were.most
        (new_count ∙ were.filled) (after_count ∙ were.count) kept_lists is is_aligned fits are_words
        beside
