-- What the words, the tags and the heads of an arena mean, and what is true of them.
use Rattle.std.specs.Prelude.{◌≡◌, ℕ, suc, ◌+◌, ◌-◌, ◌*◌, ◌^◌, ◌<◌, ◌≤◌, false, List, [], ◌∷◌, ◌++◌, length, map, replicate, slice_index, slice_index_or, refl}
use Rattle.std.specs.List.{All}
use Rattle.std.specs.Coded.{Coded, code_by, coded×, coded_ℕ, coded_list}
use Rattle.std.specs.FinMap as map
use Rattle.l6_word.specs.Numerals.{largest_level, unit_size, word_bits}
use Rattle.l6_store.specs.Numerals.{most_units}
use Rattle.l6_store.specs.Blocks.{Blocks, blocks_code, Fits, LiesIn, IsAlignedPlace, end_of}
use Rattle.l6_store.specs.Rule.{Order}
use Rattle.l6_store.specs.Buddy.{has, listed, units_from, IsListed}
use Rattle.l6_store.specs.Links.{AreAtTheirPlaces, Links}
use Rattle.l6_store.specs.inner.Tags.{gathered, size_by}
use Rattle.l6_store.specs.inner.Chains.{order_of}
use Rattle.l6_store.specs.declared.place_tag.PlaceTag.{PlaceTag}
use Rattle.l6_store.specs.declared.place_tag.PlaceTag.TheVariants.{Inner, Block, Listed}
use Rattle.l6_store.specs.declared.tag.Tag.{Tag}
use Rattle.l6_store.specs.declared.tag.Tag.TheVariants.{First, Free}

-- the tag of a place
abbrev pub place_tag_at : List PlaceTag → ℕ → PlaceTag
place_tag_at place_tags place = slice_index_or place_tags place Inner

-- the tag of a plain store for such a tag, which knows only blocks
abbrev pub tag_of : PlaceTag → Tag
tag_of Inner = Free
tag_of (Block level) = First level
tag_of (Listed level) = Free

-- the sizes are those of the blocks that begin at the places
pub record AreTagSizes (place_tags : List PlaceTag) (sizes : List ℕ) : Type 0 where
  pub count : length sizes ≡ length place_tags
  pub each : (at : ℕ) → slice_index sizes at ≡ size_by (tag_of (place_tag_at place_tags at))

-- the blocks that tags and words give
unfoldable pub blocks_of : List PlaceTag → List ℕ → Blocks
blocks_of place_tags words = gathered (map tag_of place_tags) words (length (map tag_of place_tags))

-- how an arena is laid out: its units, its blocks and its free pieces, and the words and heads that
-- hold their lists
pub record ArenaLayout : Type 0 where
  pub units : ℕ
  pub blocks : Blocks
  pub order : Order
  pub words : List ℕ
  pub heads : List ℕ

abbrev pub layout_code : Coded ArenaLayout
layout_code =
    code_by (ℕ × (Blocks × (Order × (List ℕ × List ℕ))))
    (coded× coded_ℕ (coded× blocks_code (coded× (coded_list (coded_list coded_ℕ))
    (coded× (coded_list coded_ℕ) (coded_list coded_ℕ)))))
    (λ l. (l.units, (l.blocks, (l.order, (l.words, l.heads)))))
    (λ p. record { units = p.0; blocks = p.1.0; order = p.1.1.0; words = p.1.1.1.0; heads = p.1.1.1.1 })
    (λ _. refl)

abbrev pub layout_of : ℕ → List ℕ → List PlaceTag → List ℕ → ArenaLayout
layout_of units words place_tags heads = record {
  units = units;
  blocks = blocks_of place_tags words;
  order = order_of words heads;
  words = words;
  heads = heads;
}

-- no place is twice in a list
abbrev pub AreDistinct : List ℕ → Type 0
AreDistinct [] = Unit {0}
AreDistinct (place ∷ places) = (has place places ≡ false) × AreDistinct places

-- the lists of free pieces: they are linked, and the tags say what is listed
pub record AreLists (words heads : List ℕ) (place_tags : List PlaceTag) (order : Order) : Type 0 where
  pub levels : length order ≡ suc largest_level
  pub links : Links words heads order
  pub distinct : (level : ℕ) → AreDistinct (listed order level)
  pub with_tag : (level place : ℕ) → IsListed order level place →
      place_tag_at place_tags place ≡ Listed level
  pub determined : (level place : ℕ) → place_tag_at place_tags place ≡ Listed level →
      IsListed order level place
  pub none : place_tag_at place_tags 0 ≡ Inner

-- the blocks: each is in the store, and no two share a word
pub record AreBlocks (units : ℕ) (words : List ℕ) (place_tags : List PlaceTag) : Type 0 where
  pub is_aligned : (level place : ℕ) → place_tag_at place_tags place ≡ Block level →
      IsAlignedPlace units level place
  pub fits : Fits units (blocks_of place_tags words)
  pub are_words : All (λ word. word < 2 ^ word_bits) words

-- no free piece begins in a block
abbrev pub AreBeside : Blocks → Order → Type 0
AreBeside blocks order =
    (level place : ℕ) → IsListed order level place → LiesIn blocks place → ⊥

-- what is true of each arena
pub record IsArena (units : ℕ) (words : List ℕ) (place_tags : List PlaceTag)
    (heads : List ℕ) : Type 0 where
  pub some : 1 ≤ units
  pub most : units ≤ most_units
  pub filled : length words ≡ end_of units
  pub count : length place_tags ≡ end_of units
  pub are_lists : AreLists words heads place_tags (order_of words heads)
  pub are_blocks : AreBlocks units words place_tags
  pub beside : AreBeside (blocks_of place_tags words) (order_of words heads)

-- what of that others may know
pub record IsSoundLayout (layout : ArenaLayout) : Type 0 where
  pub some : 1 ≤ layout.units
  pub most : layout.units ≤ most_units
  pub fits : Fits layout.units layout.blocks
  pub links : Links layout.words layout.heads layout.order
  pub filled : length layout.words ≡ end_of layout.units
  pub are_at_their_places : AreAtTheirPlaces layout.words layout.blocks
  pub levels : length layout.order ≡ suc largest_level
  pub distinct : (level : ℕ) → AreDistinct (listed layout.order level)
  pub few : (level : ℕ) → length (listed layout.order level) ≤ length layout.words

-- the order while units are listed, the last first: those after one are
unfoldable pub order_from : ℕ → ℕ → Order
order_from units unit =
    replicate largest_level [] ++ units_from (unit_size * unit + unit_size) (units - unit) ∷ []

-- while units are listed: those after one are, of an arena without blocks
pub record Listing (was now : ArenaLayout) (unit : ℕ) : Type 0 where
  pub most : unit ≤ now.units
  pub units : now.units ≡ was.units
  pub blocks : now.blocks ≡ map.empty
  pub order : now.order ≡ order_from now.units unit
  pub sound : IsSoundLayout now

-- an arena with the units and the blocks of another
pub record IsBeside (was now : ArenaLayout) : Type 0 where
  pub units : now.units ≡ was.units
  pub blocks : now.blocks ≡ was.blocks
  pub sound : IsSoundLayout now
