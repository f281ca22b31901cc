-- A block of an arena is opened and closed.
use Rattle.std.proofs.Common.{◌≡◌, ◌≢◌, ℕ, ◌+◌, ◌^◌, ◌<◌, ◌≤◌, List, length, get_or, set, replicate, Some, refl, ap, sym, ◌∙◌, subst, arith, inl, inr, ◌⊎◌}
use Rattle.std.proofs.lemmas.Bool.{cases_lt, cases_eq}
use Rattle.std.proofs.lemmas.Nat.{pow_pos}
use Rattle.std.proofs.lemmas.List.{get_or-set_same, length-set, length-replicate}
use Rattle.std.specs.FinMap as map
use Rattle.l6_word.specs.Numerals.{largest_level}
use Rattle.l6_raw.specs.Words.{overwritten}
use Rattle.l6_raw.proofs.Overwriting.{length_overwritten, are_words_overwritten, are_words_zeros}
use Rattle.l6_store.specs.Blocks.{Fits, LiesIn, IsAlignedPlace}
use Rattle.l6_store.specs.Buddy.{IsListed}
use Rattle.l6_store.specs.inner.Chains.{order_of}
use Rattle.l6_store.specs.inner.ArenaLayout.{AreBeside, IsArena, blocks_of, place_tag_at, tag_of}
use Rattle.l6_store.specs.declared.place_tag.PlaceTag.{PlaceTag}
use Rattle.l6_store.specs.declared.place_tag.PlaceTag.TheVariants.{Inner, Block, Listed}
use Rattle.l6_store.proofs.DetachedBlocks.{insert_lies}
use Rattle.l6_store.proofs.Tagged.{block_gone, fits_insert, fits_remove, tagged_lies, one_block, was_there}
use Rattle.l6_store.proofs.Arenas.{place_tag_same, kept_laid, kept_order}
use Rattle.l6_store.proofs.Changed.{outside, overwritten_part}

-- where a tag that is no list's changes to another
place_tags_alike : (place_tags : List PlaceTag) (place : ℕ) (place_tag : PlaceTag) (at : ℕ) →
    place < length place_tags
    → ((level : ℕ) → place_tag ≡ Listed level → ⊥)
    → ((level : ℕ) → place_tag_at place_tags place ≡ Listed level → ⊥)
    → (place_tag_at (set place_tags place place_tag) at ≡ place_tag_at place_tags at)
    ⊎ (((level : ℕ) → place_tag_at (set place_tags place place_tag) at ≡ Listed level → ⊥)
    × ((level : ℕ) → place_tag_at place_tags at ≡ Listed level → ⊥))
place_tags_alike place_tags place place_tag at room new old =
    elim (cases_eq at place)
    as (λ _. (place_tag_at (set place_tags place place_tag) at ≡ place_tag_at place_tags at)
    ⊎ (((level : ℕ) → place_tag_at (set place_tags place place_tag) at ≡ Listed level → ⊥)
    × ((level : ℕ) → place_tag_at place_tags at ≡ Listed level → ⊥))) [
      | inl same ↦
          inr (
            λ level is. new level (sym (get_or-set_same place_tags place place_tag Inner room)
                ∙ ap (place_tag_at (set place_tags place place_tag)) (sym same) ∙ is),
            λ level is. old level (ap (place_tag_at place_tags) (sym same) ∙ is),
          )
      | inr other ↦ inl (place_tag_same place_tags place at place_tag other)
    ]

module _ (units : ℕ) (words heads : List ℕ) (place_tags : List PlaceTag)
    (were : IsArena units words place_tags heads) where
  -- ---- a block is opened
  module _ (level place : ℕ) (is_aligned : IsAlignedPlace units level place)
      (beside : (at : ℕ) → place ≤ at → at < place + 2 ^ level
      → LiesIn (blocks_of place_tags words) at → ⊥)
      (unlisted : (k at : ℕ) → place ≤ at → at < place + 2 ^ level
      → IsListed (order_of words heads) k at → ⊥) where
    zeros_count : length {A = ℕ} (replicate (2 ^ level) 0) ≡ 2 ^ level
    zeros_count = length-replicate {A = ℕ} (2 ^ level) 0

    open_room : place < length place_tags
    open_room = omega (arith, were.count, is_aligned.within, pow_pos level)

    open_within : place + 2 ^ level ≤ length words
    open_within = omega (arith, were.filled, is_aligned.within)

    open_count : length (overwritten words place (replicate (2 ^ level) 0)) ≡ length words
    open_count = length_overwritten words place (replicate (2 ^ level) 0)
        (omega (arith, zeros_count, open_within))

    open_same : (at : ℕ) → (place ≤ at → at < place + 2 ^ level → ⊥)
        → get_or (overwritten words place (replicate (2 ^ level) 0)) at 0 ≡ get_or words at 0
    open_same at not = outside words place (replicate (2 ^ level) 0) at
        (omega (arith, zeros_count, open_within))
        (λ from before. not from (omega (arith, zeros_count)))

    not_listed : (k : ℕ) → place_tag_at place_tags place ≡ Listed k → ⊥
    not_listed k is = unlisted k place (omega arith) (omega (arith, pow_pos level))
        (were.are_lists.determined k place is)

    open_tagged : place_tag_at (set place_tags place (Block level)) place ≡ Block level
    open_tagged = get_or-set_same place_tags place (Block level) Inner open_room

    pub opened_blocks : blocks_of (set place_tags place (Block level))
        (overwritten words place (replicate (2 ^ level) 0))
        ≡ map.insert (blocks_of place_tags words) place (replicate (2 ^ level) 0)
    opened_blocks =
        one_block units place_tags (set place_tags place (Block level)) words
        (overwritten words place (replicate (2 ^ level) 0)) level place were.filled open_count
        were.are_blocks.is_aligned open_tagged
        (λ q other. ap tag_of (place_tag_same place_tags place q (Block level) other))
        (λ q k at other is from before. open_same at (λ low high. beside at low high
        (tagged_lies units place_tags words were.filled were.are_blocks.is_aligned k q at is from
        before)))
        ∙ ap (map.insert (blocks_of place_tags words) place)
        (overwritten_part words place (2 ^ level) (replicate (2 ^ level) 0) zeros_count open_within)

    opened_holds : (k q : ℕ) → place_tag_at (set place_tags place (Block level)) q ≡ Block k
        → IsAlignedPlace units k q
    opened_holds k q is =
        elim (cases_eq q place) as (λ _. IsAlignedPlace units k q) [
          | inl same ↦
              let both : Block level ≡ Block k
              = sym open_tagged ∙ ap (place_tag_at (set place_tags place (Block level))) (sym same)
              ∙ is in
              let levels : level ≡ k = cc in
              subst (λ (j : ℕ). IsAlignedPlace units j q) levels
              (subst (λ (p : ℕ). IsAlignedPlace units level p) (sym same) is_aligned)
          | inr other ↦
              were.are_blocks.is_aligned k q
              (sym (place_tag_same place_tags place q (Block level) other) ∙ is)
        ]

    clear_of : (q : ℕ) (block : List ℕ) → q ≢ place
        → map.get (blocks_of place_tags words) q ≡ Some block
        → (q + length block ≤ place) ⊎ (place + length {A = ℕ} (replicate (2 ^ level) 0) ≤ q)
    clear_of q block other is =
        elim (cases_lt q place)
        as (λ _. (q + length block ≤ place) ⊎ (place + length {A = ℕ} (replicate (2 ^ level) 0) ≤ q)) [
          | inl lower ↦
              elim (cases_lt place (q + length block))
              as (λ _. (q + length block ≤ place)
              ⊎ (place + length {A = ℕ} (replicate (2 ^ level) 0) ≤ q)) [
                | inl inside ↦
                    absurd (beside place (omega arith) (omega (arith, pow_pos level))
                    (record {
                      start = q;
                      words = block;
                      is = is;
                      from = omega arith;
                      below = inside;
                    }))
                | inr past ↦ inl past
              ]
          | inr upper ↦
              elim (cases_lt q (place + 2 ^ level))
              as (λ _. (q + length block ≤ place)
              ⊎ (place + length {A = ℕ} (replicate (2 ^ level) 0) ≤ q)) [
                | inl inside ↦
                    absurd (beside q upper inside
                    (record {
                      start = q;
                      words = block;
                      is = is;
                      from = omega arith;
                      below = (let found = were.are_blocks.fits.each q block is in
                          omega (arith, found.size, pow_pos found.level));
                    }))
                | inr past ↦ inr (omega (arith, zeros_count))
              ]
        ]

    opened_fits : Fits units (map.insert (blocks_of place_tags words) place (replicate (2 ^ level) 0))
    opened_fits = fits_insert units (blocks_of place_tags words) place (replicate (2 ^ level) 0)
        were.are_blocks.fits
        (record {
          level = level;
          size = zeros_count;
          is_aligned = is_aligned;
          are_words = are_words_zeros (2 ^ level);
        })
        clear_of

    opened_beside : AreBeside
        (map.insert (blocks_of place_tags words) place (replicate (2 ^ level) 0)) (order_of words heads)
    opened_beside k q is lies =
        elim (insert_lies (blocks_of place_tags words) place (replicate (2 ^ level) 0) q lies)
        as (λ _. ⊥) [
          | inl (from, before) ↦ unlisted k q from (omega (arith, zeros_count)) is
          | inr old ↦ were.beside k q is old
        ]

    open_none : place_tag_at (set place_tags place (Block level)) 0 ≡ Inner
    open_none = place_tag_same place_tags place 0 (Block level)
        (λ same. absurd (omega (arith, is_aligned.above, same, pow_pos largest_level)))
        ∙ were.are_lists.none

    pub opened_laid : IsArena units (overwritten words place (replicate (2 ^ level) 0))
        (set place_tags place (Block level)) heads
    opened_laid = kept_laid units words heads place_tags were
        (overwritten words place (replicate (2 ^ level) 0)) (set place_tags place (Block level))
        (map.insert (blocks_of place_tags words) place (replicate (2 ^ level) 0)) open_count
        (length-set place_tags place (Block level))
        (λ k at is. open_same at (λ low high. unlisted k at low high is))
        (λ at. place_tags_alike place_tags place (Block level) at open_room (λ k is. (cc)) not_listed)
        open_none opened_holds opened_blocks opened_fits
        (are_words_overwritten words place (replicate (2 ^ level) 0) were.are_blocks.are_words
        (are_words_zeros (2 ^ level))) opened_beside

    pub opened_order : order_of (overwritten words place (replicate (2 ^ level) 0)) heads
        ≡ order_of words heads
    opened_order = kept_order units words heads place_tags were
        (overwritten words place (replicate (2 ^ level) 0)) (set place_tags place (Block level))
        (map.insert (blocks_of place_tags words) place (replicate (2 ^ level) 0)) open_count
        (length-set place_tags place (Block level))
        (λ k at is. open_same at (λ low high. unlisted k at low high is))
        (λ at. place_tags_alike place_tags place (Block level) at open_room (λ k is. (cc)) not_listed)
        open_none opened_holds opened_blocks opened_fits
        (are_words_overwritten words place (replicate (2 ^ level) 0) were.are_blocks.are_words
        (are_words_zeros (2 ^ level))) opened_beside

  -- ---- a block is closed
  module _ (level place : ℕ) (is : place_tag_at place_tags place ≡ Block level) where
    close_room : place < length place_tags
    close_room = omega (
      arith,
      were.count,
      (were.are_blocks.is_aligned level place is).within,
      pow_pos level,
    )

    pub closed_blocks : blocks_of (set place_tags place Inner) words
        ≡ map.remove (blocks_of place_tags words) place
    closed_blocks = block_gone place_tags (set place_tags place Inner) words place
        (ap tag_of (get_or-set_same place_tags place Inner Inner close_room))
        (λ q other. ap tag_of (place_tag_same place_tags place q Inner other))

    closed_holds : (k q : ℕ) → place_tag_at (set place_tags place Inner) q ≡ Block k →
        IsAlignedPlace units k q
    closed_holds k q found =
        elim (cases_eq q place) as (λ _. IsAlignedPlace units k q) [
          | inl same ↦
              let new = get_or-set_same place_tags place Inner Inner close_room in
              let here = ap (place_tag_at (set place_tags place Inner)) same in
              cc
          | inr other ↦
              were.are_blocks.is_aligned k q
              (sym (place_tag_same place_tags place q Inner other) ∙ found)
        ]

    closed_beside : AreBeside (map.remove (blocks_of place_tags words) place) (order_of words heads)
    closed_beside k q there lies = were.beside k q there (record {
      start = lies.start;
      words = lies.words;
      is = was_there (blocks_of place_tags words) place lies.start lies.words lies.is;
      from = lies.from;
      below = lies.below;
    })

    closed_alike : (at : ℕ) →
        (place_tag_at (set place_tags place Inner) at ≡ place_tag_at place_tags at)
        ⊎ (((k : ℕ) → place_tag_at (set place_tags place Inner) at ≡ Listed k → ⊥)
        × ((k : ℕ) → place_tag_at place_tags at ≡ Listed k → ⊥))
    closed_alike at = place_tags_alike place_tags place Inner at close_room (λ k wrong. (cc))
        (λ k wrong. (let right = is in cc))

    close_none : place_tag_at (set place_tags place Inner) 0 ≡ Inner
    close_none = place_tag_same place_tags place 0 Inner
        (λ same. absurd (omega (
          arith,
          (were.are_blocks.is_aligned level place is).above,
          same,
          pow_pos largest_level,
        )))
        ∙ were.are_lists.none

    pub closed_laid : IsArena units words (set place_tags place Inner) heads
    closed_laid = kept_laid units words heads place_tags were words (set place_tags place Inner)
        (map.remove (blocks_of place_tags words) place) refl (length-set place_tags place Inner)
        (λ k at there. refl) closed_alike close_none closed_holds closed_blocks
        (fits_remove units (blocks_of place_tags words) place were.are_blocks.fits)
        were.are_blocks.are_words closed_beside
