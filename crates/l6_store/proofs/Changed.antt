-- The words of a block of an arena change: one is written, or all are copied from another block.
use Rattle.std.proofs.Common.{◌≡◌, ◌≢◌, ℕ, ◌+◌, ◌-◌, ◌^◌, ◌<◌, ◌≤◌, List, length, get_or, set, slice_range, drop, Some, refl, ap, sym, ◌∙◌, arith, inl, inr, ◌⊎◌}
use Rattle.std.proofs.lemmas.Bool.{cases_lt}
use Rattle.std.proofs.lemmas.Grind.{same_number_lists}
use Rattle.std.proofs.lemmas.List.{get_or-set_other, length-set}
use Rattle.std.proofs.lemmas.List.Elements.{All-set, All-take, All-drop}
use Rattle.std.specs.FinMap as map
use Rattle.l6_word.specs.Numerals.{word_bits}
use Rattle.l6_raw.specs.Words.{overwritten}
use Rattle.l6_raw.proofs.Overwriting.{length_overwritten, are_words_overwritten, get_or_overwritten_before, get_or_overwritten_in, get_or_overwritten_following}
use Rattle.l6_store.specs.Blocks.{Fits, IsLive, LiesIn, block_at, word_at}
use Rattle.l6_store.specs.Buddy.{IsListed}
use Rattle.l6_store.specs.inner.Chains.{order_of}
use Rattle.l6_store.specs.inner.ArenaLayout.{AreBeside, IsArena, blocks_of, place_tag_at}
use Rattle.l6_store.specs.declared.place_tag.PlaceTag.{PlaceTag}
use Rattle.l6_store.specs.declared.place_tag.PlaceTag.TheVariants.{Block}
use Rattle.l6_store.proofs.Ranges.{length_range, index_range, set_range}
use Rattle.l6_store.proofs.DetachedBlocks.{insert_lies}
use Rattle.l6_store.proofs.Tagged.{block_tagged, fits_insert, with_tag, tagged_lies, one_block, BlockHere, Tagged, block_here}
use Rattle.l6_store.proofs.Live.{live_words}
use Rattle.l6_store.proofs.Arenas.{AreWords, kept_laid, kept_order}

-- a word that was overwritten or not
pub outside : (words : List ℕ) (place : ℕ) (others : List ℕ) (at : ℕ)
    → place + length others ≤ length words → (place ≤ at → at < place + length others → ⊥)
    → get_or (overwritten words place others) at 0 ≡ get_or words at 0
outside words place others at within not =
    elim (cases_lt at place)
    as (λ _. get_or (overwritten words place others) at 0 ≡ get_or words at 0) [
      | inl before ↦ get_or_overwritten_before words place others at (omega arith) before
      | inr from ↦
          elim (cases_lt at (place + length others))
          as (λ _. get_or (overwritten words place others) at 0 ≡ get_or words at 0) [
            | inl inside ↦ absurd (not from inside)
            | inr past ↦ get_or_overwritten_following words place others at (omega arith) past
          ]
    ]

-- the words of a part that was overwritten
pub overwritten_part : (words : List ℕ) (place size : ℕ) (others : List ℕ) → length others ≡ size
    → place + size ≤ length words
    → slice_range (overwritten words place others) place (place + size) ≡ others
overwritten_part words place size others count within =
    let counts = length_overwritten words place others (omega arith) in
    let size_is = length_range (overwritten words place others) place size (omega (arith, counts)) in
    same_number_lists (slice_range (overwritten words place others) place (place + size)) others
    (size_is ∙ sym count)
    (λ k below.
    index_range (overwritten words place others) place size k (omega (arith, size_is))
    ∙ get_or_overwritten_in words place others k (omega arith) (omega (arith, size_is)))

module _ (units : ℕ) (words heads : List ℕ) (place_tags : List PlaceTag)
    (were : IsArena units words place_tags heads) where
  -- ---- the words of a block change
  module _ (level place : ℕ) (is : place_tag_at place_tags place ≡ Block level) (new : List ℕ)
      (count : length new ≡ length words)
      (same : (at : ℕ) → (place ≤ at → at < place + 2 ^ level → ⊥)
      → get_or new at 0 ≡ get_or words at 0)
      (are_words : AreWords new) where
    words_within : place + 2 ^ level ≤ length words
    words_within = omega (arith, were.filled, (were.are_blocks.is_aligned level place is).within)

    block_size : length (slice_range words place (place + 2 ^ level)) ≡ 2 ^ level
    block_size = length_range words place (2 ^ level) words_within

    new_size : length (slice_range new place (place + 2 ^ level)) ≡ 2 ^ level
    new_size = length_range new place (2 ^ level) (omega (arith, words_within, count))

    -- another block has none of its words
    pub others_apart : (q k at : ℕ) → q ≢ place → place_tag_at place_tags q ≡ Block k → q ≤ at
        → at < q + 2 ^ k → place ≤ at → at < place + 2 ^ level → ⊥
    others_apart q k at other found from before low high =
        let size = length_range words q (2 ^ k)
        (omega (arith, were.filled, (were.are_blocks.is_aligned k q found).within)) in
        elim (cases_lt q place) as (λ _. ⊥) [
          | inl lower ↦
              omega (
                arith,
                size,
                were.are_blocks.fits.apart q place
                    (slice_range words q (q + 2 ^ k)) (slice_range words place (place + 2 ^ level))
                    (block_tagged place_tags words k q found)
                    (block_tagged place_tags words level place is) lower,
              )
          | inr upper ↦
              omega (
                arith,
                block_size,
                were.are_blocks.fits.apart place q
                    (slice_range words place (place + 2 ^ level)) (slice_range words q (q + 2 ^ k))
                    (block_tagged place_tags words level place is)
                    (block_tagged place_tags words k q found)
                    (omega (arith, other, upper)),
              )
        ]

    pub changed_blocks : blocks_of place_tags new
        ≡ map.insert (blocks_of place_tags words) place (slice_range new place (place + 2 ^ level))
    changed_blocks = one_block units place_tags place_tags words new level place were.filled count
        were.are_blocks.is_aligned is (λ q other. refl)
        (λ q k at other found from before. same at (λ low high.
        others_apart q k at other found from before low high))

    changed_clear : (q : ℕ) (block : List ℕ) → q ≢ place
        → map.get (blocks_of place_tags words) q ≡ Some block
        → (q + length block ≤ place)
        ⊎ (place + length (slice_range new place (place + 2 ^ level)) ≤ q)
    changed_clear q block other found =
        elim (cases_lt q place)
        as (λ _. (q + length block ≤ place)
        ⊎ (place + length (slice_range new place (place + 2 ^ level)) ≤ q)) [
          | inl lower ↦ inl (were.are_blocks.fits.apart q place block
              (slice_range words place (place + 2 ^ level)) found
              (block_tagged place_tags words level place is) lower)
          | inr upper ↦ inr (omega (
            arith,
            new_size,
            block_size,
            were.are_blocks.fits.apart place q (slice_range words place (place + 2 ^ level)) block
                (block_tagged place_tags words level place is) found (omega (arith, other, upper)),
          ))
        ]

    changed_fits : Fits units
        (map.insert (blocks_of place_tags words) place (slice_range new place (place + 2 ^ level)))
    changed_fits = fits_insert units (blocks_of place_tags words) place
        (slice_range new place (place + 2 ^ level)) were.are_blocks.fits
        (record {
          level = level;
          size = new_size;
          is_aligned = were.are_blocks.is_aligned level place is;
          are_words = All-take (λ word. word < 2 ^ word_bits) _ (drop place new)
              (All-drop (λ word. word < 2 ^ word_bits) place new are_words);
        })
        changed_clear

    lies_there : (at : ℕ) → place ≤ at → at < place + 2 ^ level → LiesIn (blocks_of place_tags words) at
    lies_there at from before =
        tagged_lies units place_tags words were.filled were.are_blocks.is_aligned
        level place at is from before

    changed_beside : AreBeside
        (map.insert (blocks_of place_tags words) place (slice_range new place (place + 2 ^ level)))
        (order_of words heads)
    changed_beside k q there lies =
        elim (insert_lies (blocks_of place_tags words) place
        (slice_range new place (place + 2 ^ level)) q lies) as (λ _. ⊥) [
          | inl (from, before) ↦
              were.beside k q there (lies_there q from (omega (arith, new_size)))
          | inr old ↦ were.beside k q there old
        ]

    listed_same : (k at : ℕ) → IsListed (order_of words heads) k at
        → get_or new at 0 ≡ get_or words at 0
    listed_same k at there = same at (λ low high. were.beside k at there (lies_there at low high))

    pub changed_laid : IsArena units new place_tags heads
    changed_laid = kept_laid units words heads place_tags were new place_tags
        (map.insert (blocks_of place_tags words) place (slice_range new place (place + 2 ^ level)))
        count
        refl listed_same (λ at. inl refl) were.are_lists.none were.are_blocks.is_aligned changed_blocks
        changed_fits are_words changed_beside

    pub changed_order : order_of new heads ≡ order_of words heads
    changed_order = kept_order units words heads place_tags were new place_tags
        (map.insert (blocks_of place_tags words) place (slice_range new place (place + 2 ^ level)))
        count
        refl listed_same (λ at. inl refl) were.are_lists.none were.are_blocks.is_aligned changed_blocks
        changed_fits are_words changed_beside

  -- ---- one word is read or written
  module _ (place : ℕ) (found : LiesIn (blocks_of place_tags words) place) where
    pub from : Tagged place_tags words found.start found.words
    from = with_tag place_tags words found.start found.words found.is

    inside : found.start + 2 ^ from.level ≤ length words
    inside = omega (
      arith,
      were.filled,
      (were.are_blocks.is_aligned from.level found.start from.place_tag).within,
    )

    found_size : length found.words ≡ 2 ^ from.level
    found_size = ap (λ (ws : List ℕ). length ws) from.is
        ∙ length_range words found.start (2 ^ from.level) inside

    pub found_within : place < length words
    found_within = omega (arith, inside, found_size, found.below)

    index_is : found.start + (place - found.start) ≡ place
    index_is = omega (arith, found.from)

    pub found_word : get_or words place 0 ≡ word_at place found
    found_word =
        sym (ap (λ (ws : List ℕ). get_or ws (place - found.start) 0) from.is
        ∙ index_range words found.start (2 ^ from.level) (place - found.start)
        (omega (arith, found_size, found.from, found.below))
        ∙ ap (λ (i : ℕ). get_or words i 0) index_is)

    module _ (value : ℕ) (small : value < 2 ^ word_bits) where
      pub written_same : (at : ℕ) → (found.start ≤ at → at < found.start + 2 ^ from.level → ⊥)
          → get_or (set words place value) at 0 ≡ get_or words at 0
      written_same at not = get_or-set_other words place at value 0
          (λ same. not (omega (arith, found.from)) (omega (arith, found.below, found_size)))

      written_words : AreWords (set words place value)
      written_words = All-set (λ word. word < 2 ^ word_bits) words place value small
          were.are_blocks.are_words

      pub written_laid : IsArena units (set words place value) place_tags heads
      written_laid = changed_laid from.level found.start from.place_tag (set words place value)
          (length-set words place value) written_same written_words

      pub written_order : order_of (set words place value) heads ≡ order_of words heads
      written_order = changed_order from.level found.start from.place_tag (set words place value)
          (length-set words place value) written_same written_words

      pub written_blocks : blocks_of place_tags (set words place value)
          ≡ map.insert (blocks_of place_tags words) found.start
          (set found.words (place - found.start) value)
      written_blocks =
          changed_blocks from.level found.start from.place_tag (set words place value)
          (length-set words place value) written_same written_words
          ∙ ap (map.insert (blocks_of place_tags words) found.start)
          (ap (λ (p : ℕ). slice_range (set words p value) found.start
          (found.start + 2 ^ from.level)) (sym index_is)
          ∙ set_range words found.start (2 ^ from.level) (place - found.start) value inside
          (omega (arith, found_size, found.from, found.below))
          ∙ ap (λ (ws : List ℕ). set ws (place - found.start) value) (sym from.is))

  -- ---- a block is copied into another of its size
  module _ (source target size : ℕ) (live : IsLive (blocks_of place_tags words) source)
      (live_target : IsLive (blocks_of place_tags words) target) (different : source ≢ target)
      (same_size : length (block_at (blocks_of place_tags words) source)
      ≡ length (block_at (blocks_of place_tags words) target))
      (size_is : size ≡ length (block_at (blocks_of place_tags words) source)) where
    one : BlockHere units place_tags words source
    one = block_here units place_tags words were.filled were.are_blocks.is_aligned source live

    pub two : BlockHere units place_tags words target
    two = block_here units place_tags words were.filled were.are_blocks.is_aligned target live_target

    size_one : size ≡ 2 ^ one.level
    size_one = size_is ∙ one.size

    size_two : size ≡ 2 ^ two.level
    size_two = size_is ∙ same_size ∙ two.size

    pub source_within : source + size ≤ length words
    source_within = omega (arith, one.within, size_one)

    pub target_within : target + size ≤ length words
    target_within = omega (arith, two.within, size_two)

    pub copy_apart : (source + size ≤ target) ⊎ (target + size ≤ source)
    copy_apart =
        elim (cases_lt source target)
        as (λ _. (source + size ≤ target) ⊎ (target + size ≤ source)) [
          | inl lower ↦
              inl (omega (
                arith,
                size_is,
                were.are_blocks.fits.apart source target
                    (block_at (blocks_of place_tags words) source)
                    (block_at (blocks_of place_tags words) target)
                    (live_words (blocks_of place_tags words) source live)
                    (live_words (blocks_of place_tags words) target live_target) lower,
              ))
          | inr upper ↦
              inr (omega (
                arith,
                size_is,
                same_size,
                were.are_blocks.fits.apart target source
                    (block_at (blocks_of place_tags words) target)
                    (block_at (blocks_of place_tags words) source)
                    (live_words (blocks_of place_tags words) target live_target)
                    (live_words (blocks_of place_tags words) source live)
                    (omega (arith, different, upper)),
              ))
        ]

    part_size : length (slice_range words source (source + size)) ≡ size
    part_size = length_range words source size source_within

    copy_count : length (overwritten words target (slice_range words source (source + size)))
        ≡ length words
    copy_count = length_overwritten words target (slice_range words source (source + size))
        (omega (arith, part_size, target_within))

    pub copy_same : (at : ℕ) → (target ≤ at → at < target + 2 ^ two.level → ⊥)
        → get_or (overwritten words target (slice_range words source (source + size))) at 0
        ≡ get_or words at 0
    copy_same at not = outside words target (slice_range words source (source + size)) at
        (omega (arith, part_size, target_within))
        (λ low high. not low (omega (arith, part_size, size_two)))

    copy_words : AreWords (overwritten words target (slice_range words source (source + size)))
    copy_words = are_words_overwritten words target (slice_range words source (source + size))
        were.are_blocks.are_words
        (All-take (λ word. word < 2 ^ word_bits) _ (drop source words)
        (All-drop (λ word. word < 2 ^ word_bits) source words were.are_blocks.are_words))

    pub copied_laid : IsArena units
        (overwritten words target (slice_range words source (source + size))) place_tags heads
    copied_laid = changed_laid two.level target two.place_tag
        (overwritten words target (slice_range words source (source + size))) copy_count copy_same
        copy_words

    pub copied_order
        : order_of (overwritten words target (slice_range words source (source + size))) heads
        ≡ order_of words heads
    copied_order = changed_order two.level target two.place_tag
        (overwritten words target (slice_range words source (source + size))) copy_count copy_same
        copy_words

    pub copied_blocks
        : blocks_of place_tags (overwritten words target (slice_range words source (source + size)))
        ≡ map.insert (blocks_of place_tags words) target (block_at (blocks_of place_tags words) source)
    copied_blocks =
        changed_blocks two.level target two.place_tag
        (overwritten words target (slice_range words source (source + size))) copy_count copy_same
        copy_words
        ∙ ap (map.insert (blocks_of place_tags words) target)
        (ap (λ (n : ℕ). slice_range
        (overwritten words target (slice_range words source (source + size))) target (target + n))
        (sym size_two)
        ∙ overwritten_part words target size (slice_range words source (source + size)) part_size
        target_within
        ∙ ap (λ (n : ℕ). slice_range words source (source + n)) size_one
        ∙ sym one.words_are)
