-- What the tags of a plain store say, and how its blocks are read off them.
use Rattle.std.specs.Prelude.{◌≡◌, ℕ, zero, suc, ◌+◌, ◌^◌, ◌<◌, ◌≤◌, List, [], length, slice_range, slice_index_or, Option, Some, None}
use Rattle.std.specs.List.{All}
use Rattle.std.specs.FinMap as map
use Rattle.l6_word.specs.Numerals.{word_bits}
use Rattle.l6_store.specs.Numerals.{most_units}
use Rattle.l6_store.specs.Blocks.{Blocks, IsAlignedPlace, end_of}
use Rattle.l6_store.specs.Store.{Store}
use Rattle.l6_store.specs.declared.tag.Tag.{Tag}
use Rattle.l6_store.specs.declared.tag.Tag.TheVariants.{Free, First, Inside}

-- the tag of a place
abbrev pub tag_at : List Tag → ℕ → Tag
tag_at tags place = slice_index_or tags place Free

-- the level of the block that begins at a place with that tag, if one does
abbrev pub level_of : Tag → Option ℕ
level_of (First level) = Some level
level_of Inside = None
level_of Free = None

-- how many words the block has that begins at a place with that tag, 0 if none does
abbrev pub size_by : Tag → ℕ
size_by (First level) = 2 ^ level
size_by Inside = 0
size_by Free = 0

-- the words of the block that begins at a place with that tag, if one does
abbrev pub tagged : List ℕ → ℕ → Tag → Option (List ℕ)
tagged words place (First level) = Some (slice_range words place (place + 2 ^ level))
tagged words place Inside = None
tagged words place Free = None

abbrev pub with : ℕ → Option (List ℕ) → Blocks → Blocks
with place None blocks = blocks
with place (Some words) blocks = map.insert blocks place words

-- the blocks that begin below a place
unfoldable pub gathered : List Tag → List ℕ → ℕ → Blocks
gathered tags words zero = map.empty
gathered tags words (suc place) =
    with place (tagged words place (tag_at tags place)) (gathered tags words place)

-- a store of so many units, with these tags and words
abbrev pub store_of : ℕ → List Tag → List ℕ → Store
store_of units tags words =
    record { units = units; blocks = gathered tags words (length tags); order = []; moves = 0 }

-- a place lies after the first place of a block
pub record IsInside (tags : List Tag) (at : ℕ) : Type 0 where
  pub place : ℕ
  pub level : ℕ
  pub is : tag_at tags place ≡ First level
  pub after : place < at
  pub before : at < place + 2 ^ level

-- the tags of a store: each first place begins a block, whose other places are tagged as inside it,
-- and no others are
pub record AreTags (units : ℕ) (tags : List Tag) : Type 0 where
  pub count : length tags ≡ end_of units
  pub first : (place level : ℕ) → tag_at tags place ≡ First level → IsAlignedPlace units level place
  pub rest : (place level at : ℕ) → tag_at tags place ≡ First level → place < at →
      at < place + 2 ^ level → tag_at tags at ≡ Inside
  pub inside : (at : ℕ) → tag_at tags at ≡ Inside → IsInside tags at

-- what is true of the tags and words of each plain store
pub record IsKept (units : ℕ) (tags : List Tag) (words : List ℕ) : Type 0 where
  pub some : 1 ≤ units
  pub most : units ≤ most_units
  pub are_tags : AreTags units tags
  pub count : length words ≡ end_of units
  pub are_words : All (λ word. word < 2 ^ word_bits) words
