-- The blocks that the tags of an arena tell, and what becomes of them.
use Rattle.std.proofs.Common.{◌≡◌, ◌≢◌, ℕ, ◌+◌, ◌^◌, ◌<◌, ◌≤◌, List, [], length, get_or, map as mapped, slice_range, Option, Some, None, refl, ap, sym, ◌∙◌, subst, arith, inl, inr, ◌⊎◌}
use Rattle.std.proofs.lemmas.Bool.{cases_lt, cases_eq}
use Rattle.std.proofs.lemmas.List.{get_or-map, get_or_past, length-map}
use Rattle.std.specs.Option.{IsSome, IfSome, option_map, unwrap_or}
use Rattle.std.proofs.lemmas.Option.{slice_get-get_or, slice_get_past}
use Rattle.std.specs.List.{slice_get}
use Rattle.std.specs.FinMap as map
use Rattle.l6_word.specs.Numerals.{largest_level}
use Rattle.l6_store.specs.Blocks.{Blocks, Fits, IsBlock, IsLive, LiesIn, IsAlignedPlace, block_at, end_of}
use Rattle.l6_store.specs.inner.Tags.{tag_at, tagged, level_of}
use Rattle.l6_store.specs.inner.ArenaLayout.{place_tag_at, tag_of, blocks_of}
use Rattle.l6_store.specs.declared.place_tag.PlaceTag.{PlaceTag}
use Rattle.l6_store.specs.declared.place_tag.PlaceTag.TheVariants.{Inner, Block, Listed}
use Rattle.l6_store.specs.declared.tag.Tag.{Tag}
use Rattle.l6_store.specs.declared.tag.Tag.TheVariants.{Free, First, Inside}
use Rattle.l6_store.proofs.Ranges.{index_range, same_range, length_range}
use Rattle.l6_store.proofs.Gathered.{gathered_is, get_gathered, get_insert_same, get_insert_other, get_remove_same, get_remove_other}
use Rattle.l6_store.proofs.Contents.{known_alike}
use Rattle.l6_store.proofs.Live.{live_words}

tag_at_map : (place_tags : List PlaceTag) (place : ℕ)
    → tag_at (mapped tag_of place_tags) place ≡ tag_of (place_tag_at place_tags place)
tag_at_map place_tags place =
    elim (cases_lt place (length place_tags))
    as (λ _. tag_at (mapped tag_of place_tags) place ≡ tag_of (place_tag_at place_tags place)) [
      | inl below ↦ get_or-map tag_of place_tags place Inner Free below
      | inr past ↦
          get_or_past (mapped tag_of place_tags) place Free
          (omega (arith, length-map place_tags tag_of))
          ∙ ap tag_of (sym (get_or_past place_tags place Inner past))
    ]

-- what begins at a place
pub get_blocks_of : (place_tags : List PlaceTag) (words : List ℕ) (place : ℕ)
    → map.get (blocks_of place_tags words) place
    ≡ tagged words place (tag_of (place_tag_at place_tags place))
unfolding blocks_of
get_blocks_of place_tags words place =
    get_gathered (mapped tag_of place_tags) words place
    ∙ ap (tagged words place) (tag_at_map place_tags place)

pub blocks_are : (place_tags : List PlaceTag) (words : List ℕ) (blocks : Blocks)
    → ((q : ℕ) → tagged words q (tag_of (place_tag_at place_tags q)) ≡ map.get blocks q)
    → blocks_of place_tags words ≡ blocks
unfolding blocks_of
blocks_are place_tags words blocks each =
    gathered_is (mapped tag_of place_tags) words blocks
    (λ q. ap (tagged words q) (tag_at_map place_tags q) ∙ each q)

-- a block's tag gives its words
pub block_tagged : (place_tags : List PlaceTag) (words : List ℕ) (level place : ℕ)
    → place_tag_at place_tags place ≡ Block level
    → map.get (blocks_of place_tags words) place ≡ Some (slice_range words place (place + 2 ^ level))
block_tagged place_tags words level place is =
    get_blocks_of place_tags words place ∙ ap (λ (m : PlaceTag). tagged words place (tag_of m)) is

pub record Tagged (place_tags : List PlaceTag) (words : List ℕ) (place : ℕ)
    (block : List ℕ) : Type 0 where
  pub level : ℕ
  pub place_tag : place_tag_at place_tags place ≡ Block level
  pub is : block ≡ slice_range words place (place + 2 ^ level)

tagged_by : (place_tags : List PlaceTag) (words : List ℕ) (place : ℕ) (block : List ℕ)
    (place_tag : PlaceTag)
    → place_tag_at place_tags place ≡ place_tag → tagged words place (tag_of place_tag) ≡ Some block
    → Tagged place_tags words place block
tagged_by place_tags words place block (Block level) is determined = record {
  level = level;
  place_tag = is;
  is = (let same : Some (slice_range words place (place + 2 ^ level)) ≡ Some block = determined in cc);
}
tagged_by place_tags words place block Inner is determined = cc
tagged_by place_tags words place block (Listed level) is determined = cc

pub with_tag : (place_tags : List PlaceTag) (words : List ℕ) (place : ℕ) (block : List ℕ)
    → map.get (blocks_of place_tags words) place ≡ Some block → Tagged place_tags words place block
with_tag place_tags words place block is =
    tagged_by place_tags words place block (place_tag_at place_tags place) refl
    (sym (get_blocks_of place_tags words place) ∙ is)

-- a place of a block lies in it
pub tagged_lies : (units : ℕ) (place_tags : List PlaceTag) (words : List ℕ) →
    length words ≡ end_of units
    → ((level place : ℕ) → place_tag_at place_tags place ≡ Block level →
    IsAlignedPlace units level place)
    → (level place at : ℕ) → place_tag_at place_tags place ≡ Block level → place ≤ at →
    at < place + 2 ^ level
    → LiesIn (blocks_of place_tags words) at
tagged_lies units place_tags words filled is_aligned level place at is from before = record {
  start = place;
  words = slice_range words place (place + 2 ^ level);
  is = block_tagged place_tags words level place is;
  from = from;
  below = omega (
    arith,
    length_range words place (2 ^ level)
        (omega (arith, filled, (is_aligned level place is).within)),
  );
}

tag_first : (place_tag : PlaceTag) (level : ℕ) → tag_of place_tag ≡ First level →
    place_tag ≡ Block level
tag_first (Block k) level is =
    ap (λ (l : ℕ). Block l)
    (let same : First k ≡ First level = is in let levels : k ≡ level = cc in levels)
tag_first Inner level is = cc
tag_first (Listed k) level is = cc

-- ---- changes
-- the blocks stay where their tags and their words do
pub same_blocks : (units : ℕ) (place_tags after : List PlaceTag) (words new : List ℕ)
    → length words ≡ end_of units → length new ≡ length words
    → ((level place : ℕ) → place_tag_at place_tags place ≡ Block level →
    IsAlignedPlace units level place)
    → ((q : ℕ) → tag_of (place_tag_at after q) ≡ tag_of (place_tag_at place_tags q))
    → ((at : ℕ) → LiesIn (blocks_of place_tags words) at → get_or new at 0 ≡ get_or words at 0)
    → blocks_of after new ≡ blocks_of place_tags words
same_blocks units place_tags after words new filled count is_aligned tags same =
    blocks_are after new (blocks_of place_tags words) (λ q.
    ap (tagged new q) (tags q)
    ∙ known_alike words new q (tag_of (place_tag_at place_tags q)) (λ level first.
    let is = tag_first (place_tag_at place_tags q) level first in
    let within = (is_aligned level q is).within in
    same_range new words q q (2 ^ level) (omega (arith, filled, count)) (omega (arith, filled))
    (λ j below. same (q + j)
    (tagged_lies units place_tags words filled is_aligned level q (q + j) is (omega arith)
    (omega arith))))
    ∙ sym (get_blocks_of place_tags words q))

-- one block is new, or has new words
pub one_block : (units : ℕ) (place_tags after : List PlaceTag) (words new : List ℕ) (level place : ℕ)
    → length words ≡ end_of units → length new ≡ length words
    → ((level place : ℕ) → place_tag_at place_tags place ≡ Block level →
    IsAlignedPlace units level place)
    → place_tag_at after place ≡ Block level
    → ((q : ℕ) → q ≢ place → tag_of (place_tag_at after q) ≡ tag_of (place_tag_at place_tags q))
    → ((q k at : ℕ) → q ≢ place → place_tag_at place_tags q ≡ Block k → q ≤ at → at < q + 2 ^ k
    → get_or new at 0 ≡ get_or words at 0)
    → blocks_of after new
    ≡ map.insert (blocks_of place_tags words) place (slice_range new place (place + 2 ^ level))
one_block units place_tags after words new level place filled count is_aligned is tags same =
    let block : List ℕ = slice_range new place (place + 2 ^ level) in
    blocks_are after new (map.insert (blocks_of place_tags words) place block) (λ q.
    elim (cases_eq q place)
    as (λ _. tagged new q (tag_of (place_tag_at after q))
    ≡ map.get (map.insert (blocks_of place_tags words) place block) q) [
      | inl there ↦
          ap (λ (p : ℕ). tagged new p (tag_of (place_tag_at after p))) there
          ∙ ap (λ (m : PlaceTag). tagged new place (tag_of m)) is
          ∙ sym (ap (map.get (map.insert (blocks_of place_tags words) place block)) there
          ∙ get_insert_same (blocks_of place_tags words) place block)
      | inr other ↦
          ap (tagged new q) (tags q other)
          ∙ known_alike words new q (tag_of (place_tag_at place_tags q)) (λ k first.
          let was = tag_first (place_tag_at place_tags q) k first in
          let within = (is_aligned k q was).within in
          same_range new words q q (2 ^ k) (omega (arith, filled, count)) (omega (arith, filled))
          (λ j below. same q k (q + j) other was (omega arith) (omega arith)))
          ∙ sym (get_insert_other (blocks_of place_tags words) place block q other
          ∙ get_blocks_of place_tags words q)
    ])

-- one block is gone
pub block_gone : (place_tags after : List PlaceTag) (words : List ℕ) (place : ℕ)
    → tag_of (place_tag_at after place) ≡ Free
    → ((q : ℕ) → q ≢ place → tag_of (place_tag_at after q) ≡ tag_of (place_tag_at place_tags q))
    → blocks_of after words ≡ map.remove (blocks_of place_tags words) place
block_gone place_tags after words place is tags =
    blocks_are after words (map.remove (blocks_of place_tags words) place) (λ q.
    elim (cases_eq q place)
    as (λ _. tagged words q (tag_of (place_tag_at after q))
    ≡ map.get (map.remove (blocks_of place_tags words) place) q) [
      | inl there ↦
          ap (λ (p : ℕ). tagged words p (tag_of (place_tag_at after p))) there
          ∙ ap (tagged words place) is
          ∙ sym (ap (map.get (map.remove (blocks_of place_tags words) place)) there
          ∙ get_remove_same (blocks_of place_tags words) place)
      | inr other ↦
          ap (tagged words q) (tags q other)
          ∙ sym (get_remove_other (blocks_of place_tags words) place q other
          ∙ get_blocks_of place_tags words q)
    ])

-- ---- blocks that fit
-- the words of a map with one block more
pub insert_cases : (blocks : Blocks) (place : ℕ) (words : List ℕ) (q : ℕ) (block : List ℕ)
    → map.get (map.insert blocks place words) q ≡ Some block
    → ((q ≡ place) × (block ≡ words)) ⊎ ((q ≢ place) × (map.get blocks q ≡ Some block))
insert_cases blocks place words q block is =
    elim (cases_eq q place)
    as (λ _. ((q ≡ place) × (block ≡ words)) ⊎ ((q ≢ place) × (map.get blocks q ≡ Some block))) [
      | inl same ↦
          let found : Some words ≡ Some block
          = sym (get_insert_same blocks place words)
          ∙ ap (map.get (map.insert blocks place words)) (sym same) ∙ is in
          let words_are : block ≡ words = cc in
          inl (same, words_are)
      | inr other ↦ inr (other, sym (get_insert_other blocks place words q other) ∙ is)
    ]

pub fits_insert : (units : ℕ) (blocks : Blocks) (place : ℕ) (words : List ℕ) → Fits units blocks
    → IsBlock units place words
    → ((q : ℕ) (block : List ℕ) → q ≢ place → map.get blocks q ≡ Some block
    → (q + length block ≤ place) ⊎ (place + length words ≤ q))
    → Fits units (map.insert blocks place words)
fits_insert units blocks place words fits is clear = record {
  each = λ q block found.
      elim (insert_cases blocks place words q block found) as (λ _. IsBlock units q block) [
        | inl (same, words_are) ↦
            subst (λ (p : ℕ). IsBlock units p block) (sym same)
            (subst (λ (ws : List ℕ). IsBlock units place ws) (sym words_are) is)
        | inr (other, was) ↦ fits.each q block was
      ];
  apart = λ one two block others first second less.
      elim (insert_cases blocks place words one block first) as (λ _. one + length block ≤ two) [
        | inl (same, words_are) ↦
            let counts : length block ≡ length words = ap (λ (ws : List ℕ). length ws) words_are in
            elim (insert_cases blocks place words two others second)
            as (λ _. one + length block ≤ two) [
              | inl (again, _) ↦ absurd (omega arith)
              | inr (other, was) ↦
                  elim (clear two others other was) as (λ _. one + length block ≤ two) [
                    | inl below ↦ absurd (omega arith)
                    | inr above ↦ omega arith
                  ]
            ]
        | inr (other, was) ↦
            elim (insert_cases blocks place words two others second)
            as (λ _. one + length block ≤ two) [
              | inl (same, words_are) ↦
                  let size = (fits.each one block was).size in
                  elim (clear one block other was) as (λ _. one + length block ≤ two) [
                    | inl below ↦ omega arith
                    | inr above ↦ absurd (omega arith)
                  ]
              | inr (too, was_too) ↦ fits.apart one two block others was was_too less
            ]
      ];
}

pub was_there : (blocks : Blocks) (place q : ℕ) (block : List ℕ)
    → map.get (map.remove blocks place) q ≡ Some block → map.get blocks q ≡ Some block
was_there blocks place q block found =
    sym (get_remove_other blocks place q (λ same.
    (let gone = get_remove_same blocks place in
    let there = ap (map.get (map.remove blocks place)) same in cc))) ∙ found

pub fits_remove : (units : ℕ) (blocks : Blocks) (place : ℕ) → Fits units blocks
    → Fits units (map.remove blocks place)
fits_remove units blocks place fits = record {
  each = λ q block found. fits.each q block (was_there blocks place q block found);
  apart = λ one two block others first second less.
      fits.apart one two block others (was_there blocks place one block first)
      (was_there blocks place two others second) less;
}

-- ---- the level of a block
pub level_live : (words : List ℕ) (place : ℕ) (tag : Tag) → IsSome (level_of tag)
    → IsSome (tagged words place tag)
level_live words place (First level) live = refl
level_live words place Inside live = live
level_live words place Free live = live

pub live_level : (words : List ℕ) (place : ℕ) (tag : Tag) → IsSome (tagged words place tag)
    → IsSome (level_of tag)
live_level words place (First level) live = refl
live_level words place Inside live = live
live_level words place Free live = live

pub tagged_live : (place_tags : List PlaceTag) (words : List ℕ) (place : ℕ)
    → IsSome (level_of (tag_of (place_tag_at place_tags place))) →
    IsLive (blocks_of place_tags words) place
tagged_live place_tags words place determined =
    subst (λ (b : Option (List ℕ)). IsSome b) (sym (get_blocks_of place_tags words place))
    (level_live words place (tag_of (place_tag_at place_tags place)) determined)

pub live_tagged : (place_tags : List PlaceTag) (words : List ℕ) (place : ℕ)
    → IsLive (blocks_of place_tags words) place →
    IsSome (level_of (tag_of (place_tag_at place_tags place)))
live_tagged place_tags words place live =
    live_level words place (tag_of (place_tag_at place_tags place))
    (subst (λ (b : Option (List ℕ)). IsSome b) (get_blocks_of place_tags words place) live)

size_by : (units : ℕ) (place_tags : List PlaceTag) (words : List ℕ) → length words ≡ end_of units
    → ((level place : ℕ) → place_tag_at place_tags place ≡ Block level →
    IsAlignedPlace units level place)
    → (place : ℕ) (place_tag : PlaceTag) → place_tag_at place_tags place ≡ place_tag
    → option_map (λ (level : ℕ). 2 ^ level) (level_of (tag_of place_tag))
    ≡ option_map (λ (block : List ℕ). length block) (tagged words place (tag_of place_tag))
size_by units place_tags words filled is_aligned place (Block level) is =
    ap (λ (n : ℕ). Some n) (sym (length_range words place (2 ^ level)
    (omega (arith, filled, (is_aligned level place is).within))))
size_by units place_tags words filled is_aligned place Inner is = refl
size_by units place_tags words filled is_aligned place (Listed level) is = refl

pub tagged_size : (units : ℕ) (place_tags : List PlaceTag) (words : List ℕ) →
    length words ≡ end_of units
    → ((level place : ℕ) → place_tag_at place_tags place ≡ Block level →
    IsAlignedPlace units level place)
    → (place : ℕ)
    → option_map (λ (level : ℕ). 2 ^ level) (level_of (tag_of (place_tag_at place_tags place)))
    ≡ option_map (λ (block : List ℕ). length block) (map.get (blocks_of place_tags words) place)
tagged_size units place_tags words filled is_aligned place =
    size_by units place_tags words filled is_aligned place (place_tag_at place_tags place) refl
    ∙ ap (option_map (λ (block : List ℕ). length block)) (sym (get_blocks_of place_tags words place))

small_by : (units : ℕ) (place_tags : List PlaceTag)
    → ((level place : ℕ) → place_tag_at place_tags place ≡ Block level →
    IsAlignedPlace units level place)
    → (place : ℕ) (place_tag : PlaceTag) → place_tag_at place_tags place ≡ place_tag
    → IfSome (level_of (tag_of place_tag)) (λ level. level ≤ largest_level)
small_by units place_tags is_aligned place (Block level) is = (is_aligned level place is).small
small_by units place_tags is_aligned place Inner is = tt
small_by units place_tags is_aligned place (Listed level) is = tt

pub tagged_small : (units : ℕ) (place_tags : List PlaceTag)
    → ((level place : ℕ) → place_tag_at place_tags place ≡ Block level →
    IsAlignedPlace units level place)
    → (place : ℕ)
    → IfSome (level_of (tag_of (place_tag_at place_tags place))) (λ level. level ≤ largest_level)
tagged_small units place_tags is_aligned place =
    small_by units place_tags is_aligned place (place_tag_at place_tags place) refl

-- where a block has these words, and how many they are
pub block_at_tagged : (place_tags : List PlaceTag) (words : List ℕ) (level place : ℕ)
    → place_tag_at place_tags place ≡ Block level
    → block_at (blocks_of place_tags words) place ≡ slice_range words place (place + 2 ^ level)
block_at_tagged place_tags words level place is =
    ap (λ (b : Option (List ℕ)). unwrap_or b []) (block_tagged place_tags words level place is)

-- a block that begins at a place: its level, its words, and that they are among the words
pub record BlockHere (units : ℕ) (place_tags : List PlaceTag) (words : List ℕ)
    (place : ℕ) : Type 0 where
  pub level : ℕ
  pub place_tag : place_tag_at place_tags place ≡ Block level
  pub words_are : block_at (blocks_of place_tags words) place
      ≡ slice_range words place (place + 2 ^ level)
  pub size : length (block_at (blocks_of place_tags words) place) ≡ 2 ^ level
  pub within : place + 2 ^ level ≤ length words

pub block_here : (units : ℕ) (place_tags : List PlaceTag) (words : List ℕ) → length words ≡ end_of units
    → ((level place : ℕ) → place_tag_at place_tags place ≡ Block level →
    IsAlignedPlace units level place)
    → (place : ℕ) → IsLive (blocks_of place_tags words) place → BlockHere units place_tags words place
block_here units place_tags words filled is_aligned place live =
    let is = live_words (blocks_of place_tags words) place live in
    let from = with_tag place_tags words place (block_at (blocks_of place_tags words) place) is in
    let inside : place + 2 ^ from.level ≤ length words
    = omega (arith, filled, (is_aligned from.level place from.place_tag).within) in
    record {
      level = from.level;
      place_tag = from.place_tag;
      words_are = from.is;
      size = ap (λ (ws : List ℕ). length ws) from.is
          ∙ length_range words place (2 ^ from.level) inside;
      within = inside;
    }

-- where no level is given no block begins, so it has no word
no_level : (words : List ℕ) (place : ℕ) (tag : Tag) → None ≡ level_of tag
    → tagged words place tag ≡ None
no_level words place (First level) none = cc
no_level words place Inside none = refl
no_level words place Free none = refl

pub no_word : (place_tags : List PlaceTag) (words : List ℕ) (place index : ℕ)
    → None ≡ level_of (tag_of (place_tag_at place_tags place))
    → None ≡ slice_get (block_at (blocks_of place_tags words) place) index
no_word place_tags words place index none =
    sym (ap (λ (found : Option (List ℕ)). slice_get (unwrap_or found []) index)
    (get_blocks_of place_tags words place
    ∙ no_level words place (tag_of (place_tag_at place_tags place)) none))

-- the word of an index in a block
pub block_word : (place_tags : List PlaceTag) (words : List ℕ) (level place index : ℕ)
    → place_tag_at place_tags place ≡ Block level → place + 2 ^ level ≤ length words → index < 2 ^ level
    → Some (get_or words (place + index) 0)
    ≡ slice_get (block_at (blocks_of place_tags words) place) index
block_word place_tags words level place index is within below =
    let size = length_range words place (2 ^ level) within in
    ap (λ (w : ℕ). Some w) (sym (index_range words place (2 ^ level) index below))
    ∙ sym (slice_get-get_or (slice_range words place (place + 2 ^ level)) index 0 (omega arith))
    ∙ ap (λ (ws : List ℕ). slice_get ws index) (sym (block_at_tagged place_tags words level place is))

pub past_block : (place_tags : List PlaceTag) (words : List ℕ) (level place index : ℕ)
    → place_tag_at place_tags place ≡ Block level → place + 2 ^ level ≤ length words → 2 ^ level ≤ index
    → None ≡ slice_get (block_at (blocks_of place_tags words) place) index
past_block place_tags words level place index is within past =
    let size = length_range words place (2 ^ level) within in
    sym (ap (λ (ws : List ℕ). slice_get ws index) (block_at_tagged place_tags words level place is)
    ∙ slice_get_past (slice_range words place (place + 2 ^ level)) index (omega arith))
