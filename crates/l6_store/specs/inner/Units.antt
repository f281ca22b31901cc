-- The units of a store, and which of them are used: what is known of the places of the others.
use Rattle.std.specs.Prelude.{◌≡◌, ℕ, ◌+◌, ◌/◌, ◌%◌, ◌<◌, ◌≤◌, List, Bool, true, false, length, slice_get, slice_index_or}
use Rattle.l6_word.specs.Numerals.{unit_size}
use Rattle.l6_raw.specs.Pages.{AreUnused}
use Rattle.l6_store.specs.declared.place_tag.PlaceTag.{PlaceTag}
use Rattle.l6_store.specs.declared.place_tag.PlaceTag.TheVariants.{Inner}
use Rattle.l6_store.specs.inner.ArenaLayout.{IsArena, place_tag_at, tag_of}
use Rattle.l6_store.specs.inner.Tags.{size_by}

-- whether the unit of a place is used
abbrev pub is_used : List Bool → ℕ → Bool
is_used used place = slice_index_or used (place / unit_size) false

-- in a unit that is not used no block begins, and nothing begins after its first place
pub record AreUnitsUnused (place_tags : List PlaceTag) (used : List Bool) : Type 0 where
  pub inner : (place : ℕ) → 1 ≤ place % unit_size → is_used used place ≡ false →
      place_tag_at place_tags place ≡ Inner
  pub none : (place : ℕ) → is_used used place ≡ false →
      size_by (tag_of (place_tag_at place_tags place)) ≡ 0

-- two lists have the same entries in each unit that neither has used, but perhaps at its first place
pub record AreAlike {A : Type 0} (one other : List A) (used other_used : List Bool) (but_first : Bool)
    : Type 0 where
  pub same : (place : ℕ) → (but_first ≡ true → 1 ≤ place % unit_size) →
      is_used used place ≡ false → is_used other_used place ≡ false →
      slice_get one place ≡ slice_get other place

-- so many entries from a place on are those of another list, and no others change
pub record AreCopied {A : Type 0} (others old new : List A) (place count : ℕ) : Type 0 where
  pub long : length new ≡ length old
  pub copied : (at : ℕ) → place ≤ at → at < place + count → slice_get new at ≡ slice_get others at
  pub before : (at : ℕ) → at < place → slice_get new at ≡ slice_get old at
  pub following : (at : ℕ) → place + count ≤ at → slice_get new at ≡ slice_get old at

-- what is true of each arena, with the units that are used: of the others all words but the first are 0
pub record IsKeptArena (units : ℕ) (words : List ℕ) (place_tags : List PlaceTag) (heads : List ℕ)
    (used : List Bool) : Type 0 where
  pub laid : IsArena units words place_tags heads
  pub units_unused : AreUnitsUnused place_tags used
  pub words_unused : AreUnused words used
