-- What each call of a plain store does to its meaning.
use Rattle.std.proofs.Common.{◌≡◌, ℕ, ◌+◌, ◌-◌, ◌^◌, ◌<◌, ◌≤◌, List, [], length, get_or, set, slice_range, replicate, Option, Some, refl, ap, sym, ◌∙◌, subst, arith, inl, inr, ◌⊎◌}
use Rattle.std.proofs.lemmas.Bool.{cases_lt}
use Rattle.std.proofs.lemmas.Nat.{pow_pos, pow_below}
use Rattle.std.proofs.lemmas.Grind.{get_or_default_zero}
use Rattle.std.proofs.lemmas.List.{length-set, get_or-set_other, get_or-replicate, get_or_past, length-replicate}
use Rattle.std.proofs.lemmas.List.Elements.{All-from_get_or, All-set, All-get_or, All-same, All-replicate}
use Rattle.std.specs.List.{All}
use Rattle.std.specs.Option.{IsSome, IfSome, option_map, unwrap_or}
use Rattle.std.specs.FinMap as map
use Rattle.l6_word.specs.Numerals.{word_bits, largest_level}
use Rattle.l6_store.specs.Numerals.{most_units}
use Rattle.l6_store.specs.Blocks.{Blocks, LiesIn, IsLive, block_at, index_in, word_at, end_of}
use Rattle.l6_store.specs.Scan.{scan_rule}
use Rattle.l6_store.specs.Store.{Store, after_get, after_free, with_block, fresh}
use Rattle.l6_store.specs.inner.Tags.{tag_at, level_of, tagged, gathered, store_of, AreTags, IsKept}
use Rattle.l6_store.specs.inner.PlaceTags.{IsVacantRun, IsTagged, IsFilled, IsCleared, IsCopied}
use Rattle.l6_store.specs.declared.tag.Tag.{Tag}
use Rattle.l6_store.specs.declared.tag.Tag.TheVariants.{Free, First, Inside}
use Rattle.l6_store.proofs.Ranges.{index_range, same_range, set_range}
use Rattle.l6_store.proofs.Gathered.{determined, determines, get_gathered}
use Rattle.l6_store.proofs.Kept.{length_of}
use Rattle.l6_store.proofs.Changes.{tagged-are_tags, untagged-are_tags}
use Rattle.l6_store.proofs.Contents.{changed_block, got_block, freed_block, no_blocks, no_tags, InRun, ChangedAt}

-- the same units with these blocks
with_blocks : ℕ → Blocks → Store
with_blocks units blocks = record { units = units; blocks = blocks; order = []; moves = 0 }

-- ---- which block
level_is : (tag : Tag) (level : ℕ) → level_of tag ≡ Some level → tag ≡ First level
level_is (First k) level is = ap (λ (l : ℕ). First l) (let same : k ≡ level = cc in same)
level_is Inside level is = cc
level_is Free level is = cc

-- what the reader of tags answers at a block
pub first_at : (tags now : List Tag) (place : ℕ) (answer : Option ℕ) (level : ℕ) → now ≡ tags
    → answer ≡ level_of (tag_at now place) → answer ≡ Some level
    → tag_at tags place ≡ First level
first_at tags now place answer level same determines some =
    level_is (tag_at tags place) level
    (ap (λ (ts : List Tag). level_of (tag_at ts place)) (sym same) ∙ sym determines ∙ some)

pub first_same : (tags now : List Tag) (place level : ℕ) → now ≡ tags
    → tag_at now place ≡ First level → tag_at tags place ≡ First level
first_same tags now place level same first =
    ap (λ (ts : List Tag). tag_at ts place) (sym same) ∙ first

live_by : (words : List ℕ) (place : ℕ) (tag : Tag) → IsSome (tagged words place tag)
    → IsSome (level_of tag)
live_by words place (First level) live = refl
live_by words place Inside live = live
live_by words place Free live = live

-- where a block begins, its tag gives a level
pub live_level : (tags : List Tag) (words : List ℕ) (place : ℕ)
    → IsLive (gathered tags words (length tags)) place → IsSome (level_of (tag_at tags place))
live_level tags words place live =
    live_by words place (tag_at tags place)
    (subst (λ (b : Option (List ℕ)). IsSome b) (get_gathered tags words place) live)

known_live_by : (words : List ℕ) (place : ℕ) (tag : Tag) → IsSome (level_of tag)
    → IsSome (tagged words place tag)
known_live_by words place (First level) live = refl
known_live_by words place Inside live = live
known_live_by words place Free live = live

-- and where it gives one, a block begins
pub known_live : (tags : List Tag) (words : List ℕ) (place : ℕ)
    → IsSome (level_of (tag_at tags place)) → IsLive (gathered tags words (length tags)) place
known_live tags words place determined =
    subst (λ (b : Option (List ℕ)). IsSome b) (sym (get_gathered tags words place))
    (known_live_by words place (tag_at tags place) determined)

pub live_at : (units : ℕ) (tags : List Tag) (words : List ℕ) (store : Store)
    → store_of units tags words ≡ store
    → (now : List Tag) (place : ℕ) (answer : Option ℕ) → now ≡ tags
    → answer ≡ level_of (tag_at now place) → IsLive store.blocks place → IsSome answer
live_at units tags words store view now place answer same determines live =
    subst (λ (o : Option ℕ). IsSome o)
    (sym (determines ∙ ap (λ (ts : List Tag). level_of (tag_at ts place)) same))
    (live_level tags words place (subst (λ (s : Store). IsLive s.blocks place) (sym view) live))

size_by : (units : ℕ) (tags : List Tag) (words : List ℕ) → IsKept units tags words
    → (place : ℕ) (tag : Tag) → tag_at tags place ≡ tag
    → option_map (λ (level : ℕ). 2 ^ level) (level_of tag)
    ≡ option_map (λ (block : List ℕ). length block) (tagged words place tag)
size_by units tags words kept place (First level) is =
    ap (λ (n : ℕ). Some n) (sym (length_of units tags words kept place level is))
size_by units tags words kept place Inside is = refl
size_by units tags words kept place Free is = refl

pub size_known : (units : ℕ) (tags : List Tag) (words : List ℕ) → IsKept units tags words
    → (place : ℕ)
    → option_map (λ (level : ℕ). 2 ^ level) (level_of (tag_at tags place))
    ≡ option_map (λ (block : List ℕ). length block)
    (map.get (gathered tags words (length tags)) place)
size_known units tags words kept place =
    size_by units tags words kept place (tag_at tags place) refl
    ∙ ap (option_map (λ (block : List ℕ). length block)) (sym (get_gathered tags words place))

small_by : (units : ℕ) (tags : List Tag) → AreTags units tags → (place : ℕ) (tag : Tag)
    → tag_at tags place ≡ tag
    → IfSome (level_of tag) (λ level. level ≤ largest_level)
small_by units tags were place (First level) is = (were.first place level is).small
small_by units tags were place Inside is = tt
small_by units tags were place Free is = tt

pub small_known : (units : ℕ) (tags : List Tag) → AreTags units tags → (place : ℕ)
    → IfSome (level_of (tag_at tags place)) (λ level. level ≤ largest_level)
small_known units tags were place = small_by units tags were place (tag_at tags place) refl

-- a block lies among the words
pub block_within : (units : ℕ) (tags : List Tag) (words : List ℕ) → IsKept units tags words
    → (place level : ℕ) → tag_at tags place ≡ First level
    → place + 2 ^ level ≤ length words
block_within units tags words kept place level first =
    omega (arith, (kept.are_tags.first place level first).within, kept.count)

pub block_known : (tags : List Tag) (words : List ℕ) (place level : ℕ)
    → tag_at tags place ≡ First level
    → slice_range words place (place + 2 ^ level) ≡ block_at (gathered tags words (length tags))
    place
block_known tags words place level first =
    sym (ap (λ (b : Option (List ℕ)). unwrap_or b []) (determines tags words place level first))

-- ---- one word
pub found_within : (units : ℕ) (tags : List Tag) (words : List ℕ) → IsKept units tags words
    → (place : ℕ)
    → LiesIn (gathered tags words (length tags)) place → place < length words
found_within units tags words kept place found =
    let by = determined tags words found.start found.words found.is in
    let counts : length found.words ≡ 2 ^ by.level = ap length by.is
    ∙ length_of units tags words kept found.start by.level by.tag in
    omega (
      arith,
      block_within units tags words kept found.start by.level by.tag,
      counts,
      found.below,
    )

pub found_word : (units : ℕ) (tags : List Tag) (words : List ℕ) → IsKept units tags words
    → (place : ℕ)
    → (found : LiesIn (gathered tags words (length tags)) place)
    → get_or words place 0 ≡ word_at place found
found_word units tags words kept place found =
    let by = determined tags words found.start found.words found.is in
    let counts : length found.words ≡ 2 ^ by.level = ap length by.is
    ∙ length_of units tags words kept found.start by.level by.tag in
    let inner : place - found.start < 2 ^ by.level
    = omega (arith, found.from, found.below, counts) in
    let index : found.start + (place - found.start) ≡ place = omega (arith, found.from) in
    sym (ap (λ (b : List ℕ). get_or b (place - found.start) 0) by.is
    ∙ index_range words found.start (2 ^ by.level) (place - found.start) inner
    ∙ ap (λ (i : ℕ). get_or words i 0) index)

-- what is read there is a word, ..
pub read_fits : (units : ℕ) (tags : List Tag) (words : List ℕ) → IsKept units tags words
    → (place value : ℕ) → value ≡ get_or words place value
    → LiesIn (gathered tags words (length tags)) place
    → value < 2 ^ word_bits
read_fits units tags words kept place value is found =
    let within = found_within units tags words kept place found in
    let zero : value ≡ get_or words place 0 = is ∙ get_or_default_zero words place value within in
    subst (λ (w : ℕ). w < 2 ^ word_bits) (sym zero)
    (All-get_or (λ word. word < 2 ^ word_bits) words place 0 within kept.are_words)

-- .. and is that word
pub read_word : (units : ℕ) (tags : List Tag) (words : List ℕ) → IsKept units tags words
    → (place value : ℕ) → value ≡ get_or words place value
    → (found : LiesIn (gathered tags words (length tags)) place)
    → value ≡ word_at place found
read_word units tags words kept place value is found =
    let within = found_within units tags words kept place found in
    is ∙ get_or_default_zero words place value within
    ∙ found_word units tags words kept place found

pub written_kept : (units : ℕ) (tags : List Tag) (words : List ℕ) → IsKept units tags words
    → (place value : ℕ) → value < 2 ^ word_bits
    → IsKept units tags (set words place value)
written_kept units tags words kept place value fits = record {
  some = kept.some;
  most = kept.most;
  are_tags = kept.are_tags;
  count = length-set words place value ∙ kept.count;
  are_words = All-set (λ word. word < 2 ^ word_bits) words place value fits kept.are_words;
}

pub written_store : (units : ℕ) (tags : List Tag) (words : List ℕ) → IsKept units tags words
    → (place value : ℕ)
    → (found : LiesIn (gathered tags words (length tags)) place)
    → store_of units tags (set words place value) ≡ with_block (store_of units tags words)
    found.start (set found.words (index_in place found) value)
unfolding with_blocks
written_store units tags words kept place value found =
    let by = determined tags words found.start found.words found.is in
    let counts : length found.words ≡ 2 ^ by.level = ap length by.is
    ∙ length_of units tags words kept found.start by.level by.tag in
    let inner : place - found.start < 2 ^ by.level
    = omega (arith, found.from, found.below, counts) in
    let index : place ≡ found.start + (place - found.start) = omega (arith, found.from) in
    let changed : ChangedAt words (set words place value) (InRun found.start (2 ^ by.level))
    = λ at outside. get_or-set_other words place at value 0
    (λ same. outside
    (omega (arith, found.from, same), omega (arith, found.below, counts, same))) in
    let block : slice_range (set words place value) found.start (found.start + 2 ^ by.level)
    ≡ set found.words (place - found.start) value
    = ap (λ (p : ℕ). slice_range (set words p value) found.start (found.start + 2 ^ by.level)) index
    ∙ set_range words found.start (2 ^ by.level) (place - found.start) value
    (block_within units tags words kept found.start by.level by.tag) inner
    ∙ ap (λ (b : List ℕ). set b (place - found.start) value) (sym by.is) in
    ap (with_blocks units)
    (changed_block units tags words (set words place value) kept.are_tags kept.count
    (length-set words place value) found.start by.level by.tag changed
    ∙ ap (map.insert (gathered tags words (length tags)) found.start) block)

-- ---- a block
words_by : (bits : ℕ) (old new : List ℕ) → length new ≡ length old
    → All (λ word. word < 2 ^ bits) old
    → ((at : ℕ) → at < length new
    → (get_or new at 0 ≡ 0)
    ⊎ ((from : ℕ) × (from < length old) × (get_or new at 0 ≡ get_or old from 0)))
    → All (λ word. word < 2 ^ bits) new
words_by bits old new count fits each =
    All-from_get_or (λ word. word < 2 ^ bits) new 0 (λ at below.
    elim (each at below) as (λ _. get_or new at 0 < 2 ^ bits) [
      | inl zeroed ↦ omega (arith, zeroed, pow_pos bits)
      | inr copied ↦
          omega (arith, copied.2, All-get_or (λ word. word < 2 ^ bits) old copied.0 0 copied.1 fits)
    ])

pub got_kept : (units : ℕ) (old new : List Tag) (words cleared : List ℕ) → IsKept units old words
    → (place level : ℕ) → level ≤ largest_level
    → IsVacantRun old (2 ^ level) place → IsTagged old new place level
    → IsCleared words cleared place (2 ^ level) → IsKept units new cleared
got_kept units old new words cleared kept place level small run with_tag clear = record {
  some = kept.some;
  most = kept.most;
  are_tags = tagged-are_tags units old new place level kept.are_tags
      (record {
        small = small;
        aligned = run.aligned;
        above = run.above;
        within = omega (arith, run.within, kept.are_tags.count);
      }) run with_tag;
  count = clear.count ∙ kept.count;
  are_words = words_by word_bits words cleared clear.count kept.are_words (λ at below.
      elim (cases_lt at place)
      as (λ _. (get_or cleared at 0 ≡ 0)
      ⊎ ((from : ℕ) × (from < length words) × (get_or cleared at 0 ≡ get_or words from 0))) [
        | inl less ↦ inr (at, omega (arith, clear.count), clear.before at less)
        | inr from ↦ elim (cases_lt at (place + 2 ^ level))
            as (λ _. (get_or cleared at 0 ≡ 0)
            ⊎ ((from : ℕ) × (from < length words) × (get_or cleared at 0 ≡ get_or words from 0))) [
              | inl less ↦
                  let index : at ≡ place + (at - place) = omega arith in
                  inl (ap (λ (i : ℕ). get_or cleared i 0) index
                  ∙ clear.zeros (at - place) (omega arith))
              | inr past ↦ inr (at, omega (arith, clear.count), clear.following at past)
            ]
      ]);
}

pub got_store : (units : ℕ) (old new : List Tag) (words cleared : List ℕ) → IsKept units old words
    → (place level : ℕ)
    → IsVacantRun old (2 ^ level) place → IsTagged old new place level
    → IsCleared words cleared place (2 ^ level)
    → store_of units new cleared ≡ after_get scan_rule (store_of units old words) level (Some place)
unfolding with_blocks
got_store units old new words cleared kept place level run with_tag clear =
    ap (with_blocks units)
    (got_block units old new words cleared kept.are_tags kept.count place level run with_tag
    clear)

pub freed_kept : (units : ℕ) (old new : List Tag) (words : List ℕ) → IsKept units old words
    → (place level : ℕ) → tag_at old place ≡ First level
    → IsFilled old new place (2 ^ level) Free → IsKept units new words
freed_kept units old new words kept place level first filled = record {
  some = kept.some;
  most = kept.most;
  are_tags = untagged-are_tags units old new place level kept.are_tags first filled;
  count = kept.count;
  are_words = kept.are_words;
}

pub freed_store : (units : ℕ) (old new : List Tag) (words : List ℕ) → IsKept units old words
    → (place level : ℕ) → tag_at old place ≡ First level
    → IsFilled old new place (2 ^ level) Free
    → store_of units new words ≡ after_free scan_rule (store_of units old words) place
unfolding with_blocks
freed_store units old new words kept place level first filled =
    ap (with_blocks units) (freed_block units old new words kept.are_tags place level first filled)

-- a block of the same size has the same level
same_power : (one other : ℕ) → 2 ^ one ≡ 2 ^ other → one ≡ other
same_power one other same =
    elim (cases_lt one other) as (λ _. one ≡ other) [
      | inl less ↦ absurd (omega (arith, pow_below one other less))
      | inr not_less ↦ elim (cases_lt other one) as (λ _. one ≡ other) [
        | inl less ↦ absurd (omega (arith, pow_below other one less))
        | inr not_more ↦ omega arith
      ]
    ]

level_by : (units : ℕ) (tags : List Tag) (words : List ℕ) → IsKept units tags words
    → (to level : ℕ) (tag : Tag) → tag_at tags to ≡ tag
    → IsSome (tagged words to tag)
    → length (block_at (gathered tags words (length tags)) to) ≡ 2 ^ level → tag ≡ First level
level_by units tags words kept to level (First k) is live size =
    let sizes : 2 ^ k ≡ 2 ^ level = sym (length_of units tags words kept to k is)
    ∙ ap length (block_known tags words to k is) ∙ size in
    ap (λ (l : ℕ). First l) (same_power k level sizes)
level_by units tags words kept to level Inside is live size = cc
level_by units tags words kept to level Free is live size = cc

pub same_level : (units : ℕ) (tags : List Tag) (words : List ℕ) (store : Store)
    → store_of units tags words ≡ store → IsKept units tags words
    → (from to level : ℕ) → tag_at tags from ≡ First level → IsLive store.blocks to
    → length (block_at store.blocks from) ≡ length (block_at store.blocks to)
    → tag_at tags to ≡ First level
same_level units tags words store view kept from to level first live same =
    let here : length (block_at (gathered tags words (length tags)) from)
    ≡ length (block_at (gathered tags words (length tags)) to)
    = subst (λ (s : Store). length (block_at s.blocks from) ≡ length (block_at s.blocks to))
    (sym view) same in
    let size : length (block_at (gathered tags words (length tags)) to) ≡ 2 ^ level
    = sym here ∙ sym (ap length (block_known tags words from level first))
    ∙ length_of units tags words kept from level first in
    let there : IsSome (map.get (gathered tags words (length tags)) to)
    = subst (λ (s : Store). IsLive s.blocks to) (sym view) live in
    level_by units tags words kept to level (tag_at tags to) refl
    (subst (λ (b : Option (List ℕ)). IsSome b) (get_gathered tags words to) there) size

pub copied_kept : (units : ℕ) (tags : List Tag) (words new : List ℕ) → IsKept units tags words
    → (from to size : ℕ) → from + size ≤ length words
    → IsCopied words new from to size → IsKept units tags new
copied_kept units tags words new kept from to size within copied = record {
  some = kept.some;
  most = kept.most;
  are_tags = kept.are_tags;
  count = copied.count ∙ kept.count;
  are_words = words_by word_bits words new copied.count kept.are_words (λ at below.
      elim (cases_lt at to)
      as (λ _. (get_or new at 0 ≡ 0)
      ⊎ ((from : ℕ) × (from < length words) × (get_or new at 0 ≡ get_or words from 0))) [
        | inl less ↦ inr (at, omega (arith, copied.count), copied.before at less)
        | inr after ↦ elim (cases_lt at (to + size))
            as (λ _. (get_or new at 0 ≡ 0)
            ⊎ ((from : ℕ) × (from < length words) × (get_or new at 0 ≡ get_or words from 0))) [
              | inl less ↦
                  let index : at ≡ to + (at - to) = omega arith in
                  inr (
                    from + (at - to),
                    omega arith,
                    ap (λ (i : ℕ). get_or new i 0) index
                        ∙ copied.copied (at - to) (omega arith),
                  )
              | inr past ↦ inr (at, omega (arith, copied.count), copied.following at past)
            ]
      ]);
}

pub copied_store : (units : ℕ) (tags : List Tag) (words new : List ℕ) → IsKept units tags words
    → (from to level : ℕ)
    → tag_at tags from ≡ First level → tag_at tags to ≡ First level
    → IsCopied words new from to (2 ^ level)
    → store_of units tags new ≡ with_block (store_of units tags words) to
    (block_at (gathered tags words (length tags)) from)
unfolding with_blocks
copied_store units tags words new kept from to level first second copied =
    let within = block_within units tags words kept from level first in
    let within_to = block_within units tags words kept to level second in
    let changed : ChangedAt words new (InRun to (2 ^ level)) = λ at outside.
    elim (cases_lt at to) as (λ _. get_or new at 0 ≡ get_or words at 0) [
      | inl less ↦ copied.before at less
      | inr after ↦ elim (cases_lt at (to + 2 ^ level))
          as (λ _. get_or new at 0 ≡ get_or words at 0) [
            | inl less ↦ absurd (outside (after, less))
            | inr past ↦ copied.following at past
          ]
    ] in
    let block : slice_range new to (to + 2 ^ level) ≡ block_at (gathered tags words (length tags))
    from
    = same_range new words to from (2 ^ level) (omega (arith, within_to, copied.count)) within
    copied.copied ∙ block_known tags words from level first in
    ap (with_blocks units)
    (changed_block units tags words new kept.are_tags kept.count copied.count to level second
    changed
    ∙ ap (map.insert (gathered tags words (length tags)) to) block)

-- ---- no block
all_free : (tags : List Tag) (n : ℕ) → tags ≡ replicate n Free → (at : ℕ) → tag_at tags at ≡ Free
all_free tags n is at =
    ap (λ (ts : List Tag). tag_at ts at) is
    ∙ elim (cases_lt at n) as (λ _. tag_at (replicate n Free) at ≡ Free) [
      | inl below ↦ get_or-replicate n at Free Free below
      | inr past ↦ get_or_past (replicate n Free) at Free (omega (arith, length-replicate n Free))
    ]

pub empty_kept : (units n : ℕ) (tags : List Tag) (words : List ℕ) → 1 ≤ units → units ≤ most_units
    → n ≡ end_of units → tags ≡ replicate n Free
    → length words ≡ end_of units → All (λ word. word < 2 ^ word_bits) words
    → IsKept units tags words
empty_kept units n tags words some most count is words_count fits = record {
  some = some;
  most = most;
  are_tags = no_tags units tags (ap length is ∙ length-replicate n Free ∙ count)
      (all_free tags n is);
  count = words_count;
  are_words = fits;
}

pub made_kept : (units n : ℕ) (tags : List Tag) (words : List ℕ) → 1 ≤ units → units ≤ most_units
    → n ≡ end_of units → tags ≡ replicate n Free
    → words ≡ replicate n 0 → IsKept units tags words
made_kept units n tags words some most count is zeros =
    empty_kept units n tags words some most count is
    (ap length zeros ∙ length-replicate n 0 ∙ count)
    (All-same (λ word. word < 2 ^ word_bits) words (replicate n 0) zeros
    (All-replicate (λ word. word < 2 ^ word_bits) n 0 (pow_pos word_bits)))

pub empty_store : (units n : ℕ) (tags : List Tag) (words : List ℕ) → tags ≡ replicate n Free
    → store_of units tags words ≡ fresh scan_rule units
unfolding with_blocks
empty_store units n tags words is =
    ap (with_blocks units) (no_blocks tags words (all_free tags n is))
