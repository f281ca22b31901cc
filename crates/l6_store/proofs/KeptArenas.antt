-- What each change of an arena does to the units that are used.
use Rattle.std.proofs.Common.{◌≡◌, ◌≢◌, ℕ, ◌+◌, ◌-◌, ◌*◌, ◌/◌, ◌%◌, ◌^◌, ◌<◌, ◌≤◌, Bool, true, false, List, length, get_or, set, replicate, slice_range, refl, ap, sym, ◌∙◌, arith, inl, inr}
use Rattle.std.proofs.lemmas.Bool.{cases_eq, cases_lt, cases_Bool}
use Rattle.std.proofs.lemmas.List.{get_or-set_other, get_or-set_same, get_or-replicate, get_or_past, length-replicate}
use Rattle.std.proofs.lemmas.Nat.{pow_pos}
use Rattle.l6_word.specs.Numerals.{largest_level, word_bits}
use Rattle.l6_raw.specs.Pages.{AreUnused}
use Rattle.l6_raw.specs.Words.{overwritten}
use Rattle.l6_raw.proofs.Overwriting.{get_or_overwritten_before, get_or_overwritten_in, get_or_overwritten_following}
use Rattle.l6_store.specs.Blocks.{LiesIn, IsLive, IsAlignedPlace, block_at}
use Rattle.l6_store.specs.Buddy.{has, listed, IsListed}
use Rattle.l6_store.specs.inner.ArenaLayout.{IsArena, blocks_of, place_tag_at, tag_of}
use Rattle.l6_store.specs.inner.Chains.{order_of, words_linked, words_unlinked}
use Rattle.l6_store.specs.inner.Tags.{size_by}
use Rattle.l6_store.specs.inner.Units.{AreUnitsUnused, IsKeptArena}
use Rattle.l6_store.specs.declared.place_tag.PlaceTag.{PlaceTag}
use Rattle.l6_store.specs.declared.place_tag.PlaceTag.TheVariants.{Inner, Block, Listed}
use Rattle.l6_store.proofs.Chains.{linked_others}
use Rattle.l6_store.proofs.Multiples.{multiple_down, same_multiple, times_size}
use Rattle.l6_store.proofs.Unlinking.{unlinked_others}
use Rattle.l6_store.proofs.Arenas.{within, small}
use Rattle.l6_store.proofs.Changed.{from, written_same, written_laid, two, copy_same, copied_laid}
use Rattle.l6_store.proofs.UsedUnits.{set_unused}

-- all places of a block are in one unit
pub same_unit : (level start place : ℕ) → level ≤ largest_level → start % 2 ^ level ≡ 0 →
    start ≤ place → place < start + 2 ^ level → start / 1024 ≡ place / 1024
same_unit level start place low multiple from below =
    let first : ℕ = place / 1024 * 1024 in
    let whole : first % 2 ^ largest_level ≡ 0 = times_size (place / 1024) largest_level in
    let down : first % 2 ^ level ≡ 0 = multiple_down level largest_level first low whole in
    elim (cases_lt start first) as (λ _. start / 1024 ≡ place / 1024) [
      | inl before ↦
          let same : start ≡ first
          = same_multiple (2 ^ level) start first multiple down (omega (arith, before))
          (omega (arith, below)) in
          absurd (omega (arith, same, before))
      | inr after ↦ omega (arith, after, from)
    ]

-- a unit in which a block lies is used
pub block_used : (units : ℕ) (place_tags : List PlaceTag) (used : List Bool) →
    AreUnitsUnused place_tags used → (level start place : ℕ) →
    place_tag_at place_tags start ≡ Block level → IsAlignedPlace units level start →
    start ≤ place → place < start + 2 ^ level → get_or used (place / 1024) false ≡ false → ⊥
block_used units place_tags used unused level start place is aligned from below not =
    let unit : start / 1024 ≡ place / 1024
    = same_unit level start place aligned.small aligned.aligned from below in
    let size : 2 ^ level ≡ 0
    = ap (λ (m : PlaceTag). size_by (tag_of m)) (sym is)
    ∙ unused.none start (ap (λ (u : ℕ). get_or used u false) unit ∙ not) in
    omega (arith, size, pow_pos level)

-- words stay unused where they are the same at each place of an unused unit but its first, or 0
pub words_kept : (words new : List ℕ) (used now : List Bool) → AreUnused words used →
    ((unit : ℕ) → get_or now unit false ≡ false → get_or used unit false ≡ false) →
    ((at : ℕ) → (at % 1024 ≡ 0 → ⊥) → get_or now (at / 1024) false ≡ false →
    get_or words at 0 ≡ 0 → get_or new at 0 ≡ 0) → AreUnused new now
words_kept words new used now unused before same = record {
  zeros = λ at other is. same at other is (unused.zeros at other (before (at / 1024) is));
}

-- a place where a piece is listed is the first of its unit, or the unit is used
not_listed : (units : ℕ) (words heads : List ℕ) (place_tags : List PlaceTag) →
    IsArena units words place_tags heads → (used : List Bool) → AreUnitsUnused place_tags used →
    (level at : ℕ) → (at % 1024 ≡ 0 → ⊥) → get_or used (at / 1024) false ≡ false →
    has at (listed (order_of words heads) level) ≡ false
not_listed units words heads place_tags were used unused level at other is =
    elim (cases_Bool (has at (listed (order_of words heads) level)))
    as (λ _. has at (listed (order_of words heads) level) ≡ false) [
      | inl there ↦
          let none : Inner ≡ Listed level
          = sym (unused.inner at (omega (arith, other)) is)
          ∙ were.are_lists.with_tag level at there in
          absurd (cc)
      | inr absent ↦ absent
    ]

-- nothing begins at a place any more
pub inner_unused : (place_tags : List PlaceTag) (used : List Bool) (place : ℕ) →
    AreUnitsUnused place_tags used → place < length place_tags →
    AreUnitsUnused (set place_tags place Inner) used
inner_unused place_tags used place unused below = record {
  inner = λ at following is.
      elim (cases_eq at place) as (λ _. place_tag_at (set place_tags place Inner) at ≡ Inner) [
        | inl same ↦
            ap (place_tag_at (set place_tags place Inner)) same
            ∙ get_or-set_same place_tags place Inner Inner below
        | inr other ↦
            get_or-set_other place_tags place at Inner Inner (λ same. absurd (other same))
            ∙ unused.inner at following is
      ];
  none = λ at is.
      elim (cases_eq at place)
      as (λ _. size_by (tag_of (place_tag_at (set place_tags place Inner) at)) ≡ 0) [
        | inl same ↦
            ap (λ (m : PlaceTag). size_by (tag_of m))
            (ap (place_tag_at (set place_tags place Inner)) same
            ∙ get_or-set_same place_tags place Inner Inner below)
        | inr other ↦
            ap (λ (m : PlaceTag). size_by (tag_of m))
            (get_or-set_other place_tags place at Inner Inner (λ same. absurd (other same)))
            ∙ unused.none at is
      ];
}

-- where nothing begins anywhere, any units may be called unused
pub all_inner : (place_tags : List PlaceTag) (used : List Bool) →
    ((at : ℕ) → place_tag_at place_tags at ≡ Inner) → AreUnitsUnused place_tags used
all_inner place_tags used inner = record {
  inner = λ at _ _. inner at;
  none = λ at _. ap (λ (m : PlaceTag). size_by (tag_of m)) (inner at);
}

-- and where all words are 0
pub all_zero : (count : ℕ) (used : List Bool) → AreUnused (replicate count 0) used
all_zero count used = record {
  zeros = λ at _ _.
      elim (cases_lt at count) as (λ _. get_or {A = ℕ} (replicate count 0) at 0 ≡ 0) [
        | inl below ↦ get_or-replicate count at 0 0 below
        | inr past ↦ get_or_past (replicate count 0) at 0
            (omega (arith, length-replicate {A = ℕ} count 0))
      ];
}

-- a unit is used from then on
pub used_before : (used : List Bool) (unit : ℕ) → unit < length used → (k : ℕ) →
    get_or (set used unit true) k false ≡ false → get_or used k false ≡ false
used_before used unit below k is =
    elim (cases_eq k unit) as (λ _. get_or used k false ≡ false) [
      | inl same ↦
          let both : true ≡ false
          = sym (get_or-set_same used unit true false below)
          ∙ ap (λ (u : ℕ). get_or (set used unit true) u false) (sym same) ∙ is in
          absurd (cc)
      | inr other ↦
          sym (get_or-set_other used unit k true false (λ same. absurd (other same))) ∙ is
    ]

pub used_here : (used : List Bool) (unit : ℕ) → unit < length used →
    get_or (set used unit true) unit false ≡ false → ⊥
used_here used unit below is =
    let both : true ≡ false = sym (get_or-set_same used unit true false below) ∙ is in cc

module _ (units : ℕ) (words heads : List ℕ) (place_tags : List PlaceTag) (used : List Bool)
    (were : IsKeptArena units words place_tags heads used) where
  -- a place below the end has a tag
  tagged_place : (place : ℕ) → place < length words → place < length place_tags
  tagged_place place below = omega (arith, below, were.laid.count, were.laid.filled)

  -- a piece is linked, and its unit used but where it is the whole unit
  pub linked_kept : (level place : ℕ) (new_heads : List ℕ) (now : List Bool) →
      place < length words →
      ((unit : ℕ) → get_or now unit false ≡ false → get_or used unit false ≡ false) →
      (get_or now (place / 1024) false ≡ false → place % 1024 ≡ 0) →
      IsArena units (words_linked words place (get_or heads level 0))
      (set place_tags place (Listed level)) new_heads →
      IsKeptArena units (words_linked words place (get_or heads level 0))
      (set place_tags place (Listed level)) new_heads now
  linked_kept level place new_heads now below before here laid = record {
    laid = laid;
    units_unused = set_unused place_tags used now place (Listed level) were.units_unused
        (tagged_place place below) before (λ is. (here is, refl));
    words_unused = words_kept words (words_linked words place (get_or heads level 0)) used now
        were.words_unused before
        (λ at other is none.
        linked_others words (listed (order_of words heads) level) place (get_or heads level 0) at
        (were.laid.are_lists.links.begun level)
        (λ same. other (ap (λ (p : ℕ). p % 1024) same
        ∙ here (ap (λ (p : ℕ). get_or now (p / 1024) false) (sym same) ∙ is)))
        (not_listed units words heads place_tags were.laid used were.units_unused level at other
        (before (at / 1024) is))
        ∙ none);
  }

  -- a piece is taken out
  pub unlinked_kept : (level place : ℕ) (new_heads : List ℕ) →
      IsListed (order_of words heads) level place → place < length words →
      IsArena units (words_unlinked words place) (set place_tags place Inner) new_heads →
      IsKeptArena units (words_unlinked words place) (set place_tags place Inner) new_heads used
  unlinked_kept level place new_heads there below laid = record {
    laid = laid;
    units_unused = inner_unused place_tags used place were.units_unused (tagged_place place below);
    words_unused = words_kept words (words_unlinked words place) used used were.words_unused
        (λ _ no. no)
        (λ at other is none.
        unlinked_others words (listed (order_of words heads) level) place at there
        (within units words heads place_tags were.laid level)
        (small units words heads place_tags were.laid) (were.laid.are_lists.links.linked level)
        (not_listed units words heads place_tags were.laid used were.units_unused level at other is)
        ∙ none);
  }

  -- a block of zeros is made, and its unit used
  pub opened_kept : (level place : ℕ) (now : List Bool) → IsAlignedPlace units level place →
      ((unit : ℕ) → get_or now unit false ≡ false → get_or used unit false ≡ false) →
      (get_or now (place / 1024) false ≡ false → ⊥) →
      IsArena units (overwritten words place (replicate (2 ^ level) 0))
      (set place_tags place (Block level)) heads →
      IsKeptArena units (overwritten words place (replicate (2 ^ level) 0))
      (set place_tags place (Block level)) heads now
  opened_kept level place now aligned before here laid =
      let zeros : List ℕ = replicate (2 ^ level) 0 in
      let count : length zeros ≡ 2 ^ level = length-replicate {A = ℕ} (2 ^ level) 0 in
      let below : place < length words
      = omega (arith, aligned.within, were.laid.filled, pow_pos level) in
      record {
        laid = laid;
        units_unused = set_unused place_tags used now place (Block level) were.units_unused
            (tagged_place place below) before (λ is. absurd (here is));
        words_unused = words_kept words (overwritten words place zeros) used now were.words_unused
            before
            (λ at _ _ none.
            elim (cases_lt at place) as (λ _. get_or (overwritten words place zeros) at 0 ≡ 0) [
              | inl first ↦
                  get_or_overwritten_before words place zeros at (omega (arith, below)) first ∙ none
              | inr from ↦ elim (cases_lt at (place + length zeros))
                  as (λ _. get_or (overwritten words place zeros) at 0 ≡ 0) [
                    | inl inside ↦
                        let there : place + (at - place) ≡ at = omega (arith, from) in
                        let index : at - place < length zeros = omega (arith, from, inside) in
                        ap (λ (i : ℕ). get_or (overwritten words place zeros) i 0) (sym there)
                        ∙ get_or_overwritten_in words place zeros (at - place) (omega (arith, below))
                        index
                        ∙ get_or-replicate (2 ^ level) (at - place) 0 0 (omega (arith, index, count))
                    | inr following ↦
                        get_or_overwritten_following words place zeros at (omega (arith, below))
                        following
                        ∙ none
                  ]
            ]);
      }

  -- a block is taken out
  pub closed_kept : (place : ℕ) → place < length words →
      IsArena units words (set place_tags place Inner) heads →
      IsKeptArena units words (set place_tags place Inner) heads used
  closed_kept place below laid = record {
    laid = laid;
    units_unused = inner_unused place_tags used place were.units_unused (tagged_place place below);
    words_unused = were.words_unused;
  }

  -- words of a block change
  changed_kept : (level start : ℕ) → place_tag_at place_tags start ≡ Block level → (new : List ℕ) →
      ((at : ℕ) → (start ≤ at → at < start + 2 ^ level → ⊥) → get_or new at 0 ≡ get_or words at 0) →
      IsArena units new place_tags heads → IsKeptArena units new place_tags heads used
  changed_kept level start is new same laid = record {
    laid = laid;
    units_unused = were.units_unused;
    words_unused = words_kept words new used used were.words_unused (λ _ no. no)
        (λ at _ no none.
        same at (λ from below.
        block_used units place_tags used were.units_unused level start at is
        (were.laid.are_blocks.is_aligned level start is) from below no)
        ∙ none);
  }

  pub written_kept : (place : ℕ) (found : LiesIn (blocks_of place_tags words) place) (value : ℕ) →
      value < 2 ^ word_bits → IsKeptArena units (set words place value) place_tags heads used
  written_kept place found value low =
      let from = from units words heads place_tags were.laid place found in
      changed_kept from.level found.start from.place_tag (set words place value)
      (written_same units words heads place_tags were.laid place found value low)
      (written_laid units words heads place_tags were.laid place found value low)

  pub copied_kept : (source target size : ℕ) (live : IsLive (blocks_of place_tags words) source)
      (live_target : IsLive (blocks_of place_tags words) target) (different : source ≢ target)
      (same_size : length (block_at (blocks_of place_tags words) source)
      ≡ length (block_at (blocks_of place_tags words) target)) →
      size ≡ length (block_at (blocks_of place_tags words) source) →
      IsKeptArena units (overwritten words target (slice_range words source (source + size)))
      place_tags heads used
  copied_kept source target size live live_target different same_size is =
      let block = two units words heads place_tags were.laid source target size live live_target
      different same_size is in
      changed_kept block.level target block.place_tag
      (overwritten words target (slice_range words source (source + size)))
      (copy_same units words heads place_tags were.laid source target size live live_target different
      same_size is)
      (copied_laid units words heads place_tags were.laid source target size live live_target different
      same_size is)
