-- The sizes that are beside tags are those of the blocks.
use Rattle.std.proofs.Common.{◌≡◌, ℕ, ◌^◌, ◌<◌, ◌≤◌, List, length, get_or, set, slice_get, None, refl, ap, sym, ◌∙◌, arith, inl, inr}
use Rattle.std.proofs.lemmas.Bool.{cases_eq}
use Rattle.std.proofs.lemmas.List.{get_or-set_same, get_or-set_other, length-set}
use Rattle.l6_store.specs.Blocks.{block_at}
use Rattle.l6_store.specs.inner.ArenaLayout.{AreTagSizes, IsArena, blocks_of, place_tag_at, tag_of}
use Rattle.l6_store.specs.inner.Tags.{level_of, size_by}
use Rattle.l6_store.specs.declared.place_tag.PlaceTag.{PlaceTag}
use Rattle.l6_store.specs.declared.place_tag.PlaceTag.TheVariants.{Inner, Block, Listed}
use Rattle.l6_store.proofs.Tagged.{no_word, past_block}

-- and once a place is tagged
pub set_sizes : (place_tags : List PlaceTag) (sizes : List ℕ) (place : ℕ) (place_tag : PlaceTag)
    (size : ℕ)
    → AreTagSizes place_tags sizes → place < length place_tags → size ≡ size_by (tag_of place_tag)
    → AreTagSizes (set place_tags place place_tag) (set sizes place size)
set_sizes place_tags sizes place place_tag size sized within is =
    let inside : place < length sizes = omega (arith, within, sized.count) in
    let determined : PlaceTag → ℕ = λ m. size_by (tag_of m) in
    record {
      count = length-set sizes place size ∙ sized.count ∙ sym (length-set place_tags place place_tag);
      each = λ at.
          elim (cases_eq at place)
          as (λ _. get_or (set sizes place size) at 0
          ≡ determined (place_tag_at (set place_tags place place_tag) at)) [
            | inl same ↦
                ap (λ i. get_or (set sizes place size) i 0) same
                ∙ get_or-set_same sizes place size 0 inside ∙ is
                ∙ ap determined (sym (ap (place_tag_at (set place_tags place place_tag)) same
                ∙ get_or-set_same place_tags place place_tag Inner within))
            | inr other ↦
                get_or-set_other sizes place at size 0 (λ same. absurd (other same))
                ∙ sized.each at
                ∙ ap determined
                (sym (get_or-set_other place_tags place at place_tag Inner
                (λ same. absurd (other same))))
          ];
    }

-- a place with a size above an index is tagged as a block's
block_by : (place_tag : PlaceTag) (index : ℕ) → index < size_by (tag_of place_tag)
    → (level : ℕ) × (place_tag ≡ Block level) × (index < 2 ^ level)
block_by Inner index below = absurd (omega (arith, below))
block_by (Block level) index below = (level, refl, below)
block_by (Listed level) index below = absurd (omega (arith, below))

pub sized_block : (place_tags : List PlaceTag) (place index : ℕ)
    → index < size_by (tag_of (place_tag_at place_tags place))
    → (level : ℕ) × (place_tag_at place_tags place ≡ Block level) × (index < 2 ^ level)
sized_block place_tags place index below = block_by (place_tag_at place_tags place) index below

-- no block has a word past its size
past_by : (units : ℕ) (words heads : List ℕ) (place_tags : List PlaceTag) →
    IsArena units words place_tags heads
    → (place index : ℕ) (place_tag : PlaceTag) → place_tag_at place_tags place ≡ place_tag
    → size_by (tag_of place_tag) ≤ index
    → None ≡ slice_get (block_at (blocks_of place_tags words) place) index
past_by units words heads place_tags laid place index Inner is past =
    no_word place_tags words place index (ap (λ (m : PlaceTag). level_of (tag_of m)) (sym is))
past_by units words heads place_tags laid place index (Listed level) is past =
    no_word place_tags words place index (ap (λ (m : PlaceTag). level_of (tag_of m)) (sym is))
past_by units words heads place_tags laid place index (Block level) is past =
    let is_aligned = laid.are_blocks.is_aligned level place is in
    past_block place_tags words level place index is
    (omega (arith, is_aligned.within, laid.filled)) past

pub past_size : (units : ℕ) (words heads : List ℕ) (place_tags : List PlaceTag)
    → IsArena units words place_tags heads → (place index : ℕ)
    → size_by (tag_of (place_tag_at place_tags place)) ≤ index
    → None ≡ slice_get (block_at (blocks_of place_tags words) place) index
past_size units words heads place_tags laid place index past =
    past_by units words heads place_tags laid place index (place_tag_at place_tags place) refl past
