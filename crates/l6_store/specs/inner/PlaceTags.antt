-- What a plain store does to its tags and words.
use Rattle.std.specs.Prelude.{◌≡◌, ℕ, ◌+◌, ◌%◌, ◌^◌, ◌<◌, ◌≤◌, List, length, slice_index, Option, Some, None, ◌⊎◌}
use Rattle.l6_word.specs.Numerals.{unit_size}
use Rattle.l6_store.specs.inner.Tags.{size_by, tag_at, IsKept}
use Rattle.l6_store.specs.declared.tag.Tag.{Tag}
use Rattle.l6_store.specs.declared.tag.Tag.TheVariants.{Free, First, Inside}

-- so many places from one on are in no block, and a block of that size may be there
pub record IsVacantRun (tags : List Tag) (size place : ℕ) : Type 0 where
  pub aligned : place % size ≡ 0
  pub above : unit_size ≤ place
  pub within : place + size ≤ length tags
  pub free : (at : ℕ) → place ≤ at → at < place + size → tag_at tags at ≡ Free

-- the lowest such place, or none where there is none
abbrev pub IsLowest : List Tag → ℕ → Option ℕ → Type 0
IsLowest tags size (Some place) =
    IsVacantRun tags size place × ((lower : ℕ) → lower < place → IsVacantRun tags size lower → ⊥)
IsLowest tags size None = (place : ℕ) → IsVacantRun tags size place → ⊥

-- no place of the store below this one is free
pub record IsFull (tags : List Tag) (low : ℕ) : Type 0 where
  pub above : unit_size ≤ low
  pub taken : (at : ℕ) → unit_size ≤ at → at < low → tag_at tags at ≡ Free → ⊥

-- the place below which none is free may rise after a new block that has one word, or that begins
-- at that place
abbrev pub IsRaised : ℕ → ℕ → ℕ → ℕ → Type 0
IsRaised low place level result =
    (result ≡ low) ⊎ ((result ≡ place + 2 ^ level) × ((level ≡ 0) ⊎ (place ≡ low)))

-- the sizes are those of the blocks that begin at the places
pub record AreSizes (tags : List Tag) (sizes : List ℕ) : Type 0 where
  pub count : length sizes ≡ length tags
  pub each : (at : ℕ) → slice_index sizes at ≡ size_by (tag_at tags at)

-- what is true of each plain store
pub record IsHeld (units : ℕ) (tags : List Tag) (words sizes : List ℕ) (low : ℕ) : Type 0 where
  pub kept : IsKept units tags words
  pub sized : AreSizes tags sizes
  pub full : IsFull tags low

-- the places of a new block are tagged, and no others change
pub record IsTagged (old new : List Tag) (place level : ℕ) : Type 0 where
  pub count : length new ≡ length old
  pub first : tag_at new place ≡ First level
  pub rest : (at : ℕ) → place < at → at < place + 2 ^ level → tag_at new at ≡ Inside
  pub before : (at : ℕ) → at < place → tag_at new at ≡ tag_at old at
  pub following : (at : ℕ) → place + 2 ^ level ≤ at → tag_at new at ≡ tag_at old at

-- so many places from one on have a tag, and no others change
pub record IsFilled (old new : List Tag) (place size : ℕ) (tag : Tag) : Type 0 where
  pub count : length new ≡ length old
  pub filled : (at : ℕ) → place ≤ at → at < place + size → tag_at new at ≡ tag
  pub before : (at : ℕ) → at < place → tag_at new at ≡ tag_at old at
  pub following : (at : ℕ) → place + size ≤ at → tag_at new at ≡ tag_at old at

-- so many words from a place on are 0, and no others change
pub record IsCleared (old new : List ℕ) (place size : ℕ) : Type 0 where
  pub count : length new ≡ length old
  pub zeros : (k : ℕ) → k < size → slice_index new (place + k) ≡ 0
  pub before : (at : ℕ) → at < place → slice_index new at ≡ slice_index old at
  pub following : (at : ℕ) → place + size ≤ at → slice_index new at ≡ slice_index old at

-- so many words are those from another place on, and no others change
pub record IsCopied (old new : List ℕ) (from to size : ℕ) : Type 0 where
  pub count : length new ≡ length old
  pub copied : (k : ℕ) → k < size → slice_index new (to + k) ≡ slice_index old (from + k)
  pub before : (at : ℕ) → at < to → slice_index new at ≡ slice_index old at
  pub following : (at : ℕ) → to + size ≤ at → slice_index new at ≡ slice_index old at
