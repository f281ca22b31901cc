-- What becomes of the blocks of a plain store when its tags and words change.
use Rattle.std.proofs.Common.{◌≡◌, ◌≢◌, ℕ, ◌+◌, ◌^◌, ◌<◌, ◌≤◌, List, length, get_or, slice_range, replicate, Some, refl, ap, sym, ◌∙◌, arith, inl, inr}
use Rattle.std.proofs.lemmas.Bool.{cases_lt, cases_eq}
use Rattle.std.proofs.lemmas.Nat.{pow_pos}
use Rattle.std.specs.Ordering.{nat_cmp}
use Rattle.std.specs.FinMap as map
use Rattle.l6_store.specs.Blocks.{Blocks, end_of}
use Rattle.l6_store.specs.inner.Tags.{tag_at, tagged, gathered, AreTags}
use Rattle.l6_store.specs.inner.PlaceTags.{IsVacantRun, IsTagged, IsFilled, IsCleared}
use Rattle.l6_store.specs.declared.tag.Tag.{Tag}
use Rattle.l6_store.specs.declared.tag.Tag.TheVariants.{Free, First, Inside}
use Rattle.l6_store.proofs.Ranges.{same_range, zero_range}
use Rattle.l6_store.proofs.Gathered.{gathered_is, get_gathered, get_insert_same, get_insert_other, get_remove_same, get_remove_other}
use Rattle.l6_store.proofs.Kept.{block_apart}
use Rattle.l6_store.proofs.Changes.{as_before, in_run, tagged_change, untagged_change}

-- a block whose words are as they were is known by the same tag
pub known_alike : (old new : List ℕ) (q : ℕ) (tag : Tag)
    → ((k : ℕ) → tag ≡ First k → slice_range new q (q + 2 ^ k) ≡ slice_range old q (q + 2 ^ k))
    → tagged new q tag ≡ tagged old q tag
known_alike old new q Free same = refl
known_alike old new q Inside same = refl
known_alike old new q (First k) same = ap (λ (block : List ℕ). Some block) (same k refl)

-- words have changed at some places alone
abbrev pub ChangedAt : List ℕ → List ℕ → (ℕ → Type 0) → Type 0
ChangedAt old new Changed = (at : ℕ) → (Changed at → ⊥) → get_or new at 0 ≡ get_or old at 0

-- the places of a run
abbrev pub InRun : ℕ → ℕ → ℕ → Type 0
InRun place size at = (place ≤ at) × (at < place + size)

module _ (units : ℕ) (tags : List Tag) (were : AreTags units tags) (words new : List ℕ)
    (count : length words ≡ end_of units)
    (new_count : length new ≡ length words) (place size : ℕ)
    (changed : ChangedAt words new (InRun place size)) where
  -- a block with no place in the run
  beside : (q k : ℕ) → tag_at tags q ≡ First k
      → ((j : ℕ) → j < 2 ^ k → InRun place size (q + j) → ⊥)
      → slice_range new q (q + 2 ^ k) ≡ slice_range words q (q + 2 ^ k)
  beside q k first apart =
      let is_aligned = were.first q k first in
      same_range new words q q (2 ^ k) (omega (arith, is_aligned.within, new_count, count))
      (omega (arith, is_aligned.within, count))
      (λ j below. changed (q + j) (apart j below))

-- the tag of a place of another block
pub another : (units : ℕ) (tags : List Tag) → AreTags units tags → (place level q k j : ℕ)
    → tag_at tags place ≡ First level → tag_at tags q ≡ First k
    → q ≢ place → j < 2 ^ k → InRun place (2 ^ level) (q + j) → ⊥
another units tags were place level q k j first is other below run =
    elim (cases_lt q place) as (λ _. ⊥) [
      | inl lower ↦
          absurd
          (omega (arith, run.0, run.1, block_apart units tags were q place k level is first lower))
      | inr upper ↦ let order : place < q = (omega (arith, other)) in
          absurd
          (omega (
            arith,
            run.0,
            run.1,
            block_apart units tags were place q level k first is order,
          ))
    ]

-- the words of one block change
pub changed_block : (units : ℕ) (tags : List Tag) (words new : List ℕ) → AreTags units tags
    → length words ≡ end_of units → length new ≡ length words
    → (place level : ℕ) → tag_at tags place ≡ First level
    → ChangedAt words new (InRun place (2 ^ level))
    → gathered tags new (length tags) ≡ map.insert (gathered tags words (length tags)) place
    (slice_range new place (place + 2 ^ level))
changed_block units tags words new were count new_count place level first changed =
    let block : List ℕ = slice_range new place (place + 2 ^ level) in
    let blocks : Blocks = gathered tags words (length tags) in
    gathered_is tags new (map.insert blocks place block) (λ q.
    elim (cases_eq q place)
    as (λ _. tagged new q (tag_at tags q) ≡ map.get (map.insert blocks place block) q) [
      | inl same ↦
          ap (λ (p : ℕ). tagged new p (tag_at tags p)) same
          ∙ ap (tagged new place) first
          ∙ sym (ap (map.get (map.insert blocks place block)) same
          ∙ get_insert_same blocks place block)
      | inr other ↦
          known_alike words new q (tag_at tags q) (λ k is.
          beside units tags were words new count new_count place (2 ^ level) changed q k is
          (λ j below run. another units tags were place level q k j first is other below run))
          ∙ sym (get_insert_other blocks place block q other ∙ get_gathered tags words q)
    ])

-- clearing a run changes no other word
pub changed_of : (old new : List ℕ) (place size : ℕ) → IsCleared old new place size
    → ChangedAt old new (InRun place size)
changed_of old new place size clear at outside =
    elim (cases_lt at place) as (λ _. get_or new at 0 ≡ get_or old at 0) [
      | inl less ↦ clear.before at less
      | inr from ↦ elim (cases_lt at (place + size)) as (λ _. get_or new at 0 ≡ get_or old at 0) [
        | inl less ↦ absurd (outside (from, less))
        | inr past ↦ clear.following at past
      ]
    ]

-- no place of a block is tagged free
not_free : (units : ℕ) (tags : List Tag) → AreTags units tags → (q k j : ℕ)
    → tag_at tags q ≡ First k → j < 2 ^ k → tag_at tags (q + j) ≡ Free → ⊥
not_free units tags were q k j first below free =
    elim (cases_eq j 0) as (λ _. ⊥) [
      | inl none ↦ let there : q + j ≡ q = omega arith in let same = ap (tag_at tags) there in cc
      | inr some ↦ let inside = were.rest q k (q + j) first (omega (arith, some)) (omega arith) in
          cc
    ]

-- a block is got
pub got_block : (units : ℕ) (old new : List Tag) (words cleared : List ℕ) → AreTags units old
    → length words ≡ end_of units
    → (place level : ℕ) → IsVacantRun old (2 ^ level) place → IsTagged old new place level
    → IsCleared words cleared place (2 ^ level)
    → gathered new cleared (length new) ≡ map.insert (gathered old words (length old)) place
    (replicate (2 ^ level) 0)
got_block units old new words cleared were count place level run with_tag clear =
    let block : List ℕ = replicate (2 ^ level) 0 in
    let blocks : Blocks = gathered old words (length old) in
    gathered_is new cleared (map.insert blocks place block) (λ q.
    elim (cases_eq q place)
    as (λ _. tagged cleared q (tag_at new q) ≡ map.get (map.insert blocks place block) q) [
      | inl same ↦
          ap (λ (p : ℕ). tagged cleared p (tag_at new p)) same
          ∙ ap (tagged cleared place) with_tag.first
          ∙ ap (λ (b : List ℕ). Some b)
          (zero_range cleared place (2 ^ level)
          (omega (arith, run.within, clear.count, were.count, count)) clear.zeros)
          ∙ sym (ap (map.get (map.insert blocks place block)) same
          ∙ get_insert_same blocks place block)
      | inr other ↦
          elim (tagged_change old new place level with_tag q)
          as (λ _. tagged cleared q (tag_at new q) ≡ map.get (map.insert blocks place block) q) [
            | as_before is ↦
                ap (tagged cleared q) is
                ∙ known_alike words cleared q (tag_at old q) (λ k first.
                beside units old were words cleared count clear.count place (2 ^ level)
                (changed_of words cleared place (2 ^ level) clear) q k first
                (λ j below in_run. not_free units old were q k j first below
                (run.free (q + j) in_run.0 in_run.1)))
                ∙ sym (get_insert_other blocks place block q other ∙ get_gathered old words q)
            | in_run from below ↦
                ap (tagged cleared q) (with_tag.rest q (omega (arith, other)) below)
                ∙ sym (get_insert_other blocks place block q other ∙ get_gathered old words q
                ∙ ap (tagged words q) (run.free q from below))
          ]
    ])

-- a block is freed
pub freed_block : (units : ℕ) (old new : List Tag) (words : List ℕ) → AreTags units old
    → (place level : ℕ) → tag_at old place ≡ First level
    → IsFilled old new place (2 ^ level) Free
    → gathered new words (length new) ≡ map.remove (gathered old words (length old)) place
freed_block units old new words were place level first untagged =
    let blocks : Blocks = gathered old words (length old) in
    gathered_is new words (map.remove blocks place) (λ q.
    elim (cases_eq q place)
    as (λ _. tagged words q (tag_at new q) ≡ map.get (map.remove blocks place) q) [
      | inl same ↦
          ap (tagged words q)
          (untagged.filled q (omega (arith, same)) (omega (arith, same, pow_pos level)))
          ∙ sym (ap (map.get (map.remove blocks place)) same ∙ get_remove_same blocks place)
      | inr other ↦
          elim (untagged_change old new place (2 ^ level) untagged q)
          as (λ _. tagged words q (tag_at new q) ≡ map.get (map.remove blocks place) q) [
            | as_before is ↦ ap (tagged words q) is
                ∙ sym (get_remove_other blocks place q other ∙ get_gathered old words q)
            | in_run from below ↦
                ap (tagged words q) (untagged.filled q from below)
                ∙ sym (get_remove_other blocks place q other ∙ get_gathered old words q
                ∙ ap (tagged words q) (were.rest place level q first (omega (arith, other)) below))
          ]
    ])

-- all places are free
pub no_blocks : (tags : List Tag) (words : List ℕ) → ((at : ℕ) → tag_at tags at ≡ Free)
    → gathered tags words (length tags) ≡ map.empty
no_blocks tags words free =
    gathered_is tags words map.empty
    (λ q. ap (tagged words q) (free q) ∙ sym (map.get-empty nat_cmp q))

pub no_tags : (units : ℕ) (tags : List Tag) → length tags ≡ end_of units
    → ((at : ℕ) → tag_at tags at ≡ Free) → AreTags units tags
no_tags units tags count free = record {
  count = count;
  first = λ place level is. (let was = free place in cc);
  rest = λ place level at is _ _. (let was = free place in cc);
  inside = λ at is. absurd (let was = free at in cc);
}
