-- The sizes of a plain store are those of its blocks.
use Rattle.std.proofs.Common.{◌≡◌, ℕ, ◌+◌, ◌^◌, ◌<◌, ◌≤◌, List, [], length, get_or, set, slice_get, slice_range, Option, Some, None, refl, ap, sym, subst, ◌∙◌, arith, inl, inr}
use Rattle.std.specs.Option.{option_map, unwrap_or}
use Rattle.std.specs.FinMap as map
use Rattle.std.proofs.lemmas.Bool.{cases_lt, cases_eq}
use Rattle.std.proofs.lemmas.List.{get_or-set_same, get_or-set_other, length-set}
use Rattle.std.proofs.lemmas.List.Elements.{All-get_or}
use Rattle.std.proofs.lemmas.Nat.{pow_pos}
use Rattle.std.proofs.lemmas.Option.{slice_get-get_or, slice_get_past}
use Rattle.std.proofs.Math.Nat.{pow-le-pow_right}
use Rattle.l6_word.specs.Numerals.{largest_level, unit_size, word_bits}
use Rattle.l6_store.specs.Numerals.{most_units}
use Rattle.l6_store.specs.Blocks.{block_at, end_of}
use Rattle.l6_store.specs.inner.Tags.{gathered, level_of, size_by, tag_at, IsKept}
use Rattle.l6_store.specs.inner.PlaceTags.{AreSizes, IsFilled, IsVacantRun, IsTagged}
use Rattle.l6_store.specs.declared.tag.Tag.{Tag}
use Rattle.l6_store.specs.declared.tag.Tag.TheVariants.{Free, First, Inside}
use Rattle.l6_store.proofs.Kept.{length_of}
use Rattle.l6_store.proofs.Ranges.{index_range}
use Rattle.l6_store.proofs.Calls.{block_known, block_within, size_known}

-- ---- a new block
module _ (old new : List Tag) (sizes : List ℕ) (place level : ℕ) (sized : AreSizes old sizes)
    (run : IsVacantRun old (2 ^ level) place) (with_tag : IsTagged old new place level) where
  -- each other place has the size that it had
  same_size : (at : ℕ) → (at ≡ place → ⊥) → size_by (tag_at old at) ≡ size_by (tag_at new at)
  same_size at other =
      elim (cases_lt at place) as (λ _. size_by (tag_at old at) ≡ size_by (tag_at new at)) [
        | inl less ↦ ap size_by (sym (with_tag.before at less))
        | inr from ↦ elim (cases_lt at (place + 2 ^ level))
            as (λ _. size_by (tag_at old at) ≡ size_by (tag_at new at)) [
              | inl below ↦
                  let after : place < at =
                  elim (cases_lt place at) as (λ _. place < at) [
                    | inl is ↦ is
                    | inr not ↦ absurd (other (omega (arith, from, not)))
                  ] in
                  ap size_by (run.free at (omega (arith, after)) below)
                  ∙ ap size_by (sym (with_tag.rest at after below))
              | inr past ↦ ap size_by (sym (with_tag.following at (omega (arith, past))))
            ]
      ]

  pub got_sizes : (size : ℕ) → size ≡ 2 ^ level → AreSizes new (set sizes place size)
  got_sizes size is =
      let within : place < length sizes =
      omega (arith, run.within, sized.count, pow_pos level) in
      record {
        count = length-set sizes place size ∙ sized.count ∙ sym with_tag.count;
        each = λ at.
            elim (cases_eq at place)
            as (λ _. get_or (set sizes place size) at 0 ≡ size_by (tag_at new at)) [
              | inl same ↦
                  ap (λ i. get_or (set sizes place size) i 0) same
                  ∙ get_or-set_same sizes place size 0 within ∙ is
                  ∙ ap size_by (sym (ap (tag_at new) same ∙ with_tag.first))
              | inr other ↦
                  get_or-set_other sizes place at size 0 (λ same. absurd (other same))
                  ∙ sized.each at ∙ same_size at other
            ];
      }

-- ---- a block that is freed
module _ (units : ℕ) (old new : List Tag) (words sizes : List ℕ) (place level : ℕ)
    (kept : IsKept units old words) (sized : AreSizes old sizes)
    (first : tag_at old place ≡ First level)
    (filled : IsFilled old new place (2 ^ level) Free) where
  still_size : (at : ℕ) → (at ≡ place → ⊥) → size_by (tag_at old at) ≡ size_by (tag_at new at)
  still_size at other =
      elim (cases_lt at place) as (λ _. size_by (tag_at old at) ≡ size_by (tag_at new at)) [
        | inl less ↦ ap size_by (sym (filled.before at less))
        | inr from ↦ elim (cases_lt at (place + 2 ^ level))
            as (λ _. size_by (tag_at old at) ≡ size_by (tag_at new at)) [
              | inl below ↦
                  let after : place < at =
                  elim (cases_lt place at) as (λ _. place < at) [
                    | inl is ↦ is
                    | inr not ↦ absurd (other (omega (arith, from, not)))
                  ] in
                  ap size_by (kept.are_tags.rest place level at first after below)
                  ∙ ap size_by (sym (filled.filled at (omega (arith, after)) below))
              | inr past ↦ ap size_by (sym (filled.following at (omega (arith, past))))
            ]
      ]

  pub freed_sizes : AreSizes new (set sizes place 0)
  freed_sizes =
      let within : place < length sizes =
      omega (
        arith,
        (kept.are_tags.first place level first).within,
        kept.are_tags.count,
        sized.count,
        pow_pos level,
      ) in
      record {
        count = length-set sizes place 0 ∙ sized.count ∙ sym filled.count;
        each = λ at.
            elim (cases_eq at place)
            as (λ _. get_or (set sizes place 0) at 0 ≡ size_by (tag_at new at)) [
              | inl same ↦
                  ap (λ i. get_or (set sizes place 0) i 0) same
                  ∙ get_or-set_same sizes place 0 0 within
                  ∙ ap size_by (sym (ap (tag_at new) same
                  ∙ filled.filled place (omega arith) (omega (arith, pow_pos level))))
              | inr other ↦
                  get_or-set_other sizes place at 0 0 (λ same. absurd (other same))
                  ∙ sized.each at ∙ still_size at other
            ];
      }

-- ---- what follows from a size
size_of_level : (tag : Tag) →
    size_by tag ≡ unwrap_or (option_map (λ (k : ℕ). 2 ^ k) (level_of tag)) 0
size_of_level (First level) = refl
size_of_level Inside = refl
size_of_level Free = refl

size_of_words : (found : Option (List ℕ)) →
    unwrap_or (option_map (λ (words : List ℕ). length words) found) 0
    ≡ length (unwrap_or found [])
size_of_words (Some words) = refl
size_of_words None = refl

pub size_is : (units : ℕ) (tags : List Tag) (words sizes : List ℕ) → IsKept units tags words →
    AreSizes tags sizes → (place : ℕ) →
    get_or sizes place 0 ≡ length (block_at (gathered tags words (length tags)) place)
size_is units tags words sizes kept sized place =
    sized.each place ∙ size_of_level (tag_at tags place)
    ∙ ap (λ found. unwrap_or found 0) (size_known units tags words kept place)
    ∙ size_of_words (map.get (gathered tags words (length tags)) place)

-- ---- a word by its index
first_of_size : (tag : Tag) (index : ℕ) → index < size_by tag →
    (level : ℕ) × (tag ≡ First level) × (size_by tag ≡ 2 ^ level)
first_of_size (First level) index below = (level, refl, refl)
first_of_size Inside index below = absurd (omega (arith, below))
first_of_size Free index below = absurd (omega (arith, below))

module _ (units : ℕ) (tags : List Tag) (words sizes : List ℕ) (kept : IsKept units tags words)
    (sized : AreSizes tags sizes) (place index : ℕ) (below : index < get_or sizes place 0) where
  first : (level : ℕ) × (tag_at tags place ≡ First level) × (size_by (tag_at tags place) ≡ 2 ^ level)
  first =
      first_of_size (tag_at tags place) index (omega (arith, below, sized.each place))

  small : index < 2 ^ first.0
  small = omega (arith, below, sized.each place, first.2)

  -- it lies in the store, ..
  pub word_within : place + index < length words
  word_within =
      omega (arith, small, block_within units tags words kept place first.0 first.1)

  pub word_near : (place < end_of most_units) × (index < unit_size)
  word_near =
      let is_aligned = kept.are_tags.first place first.0 first.1 in
      let most : 2 ^ first.0 ≤ 2 ^ largest_level =
      pow-le-pow_right (omega arith) is_aligned.small in (
        omega (arith, small, is_aligned.within, kept.most),
        omega (arith, small, most),
      )

  -- .. and is that of its block
  pub word_is : (value : ℕ) → value ≡ get_or words (place + index) 0 →
      slice_get (block_at (gathered tags words (length tags)) place) index ≡ Some value
  word_is value is =
      let whole = block_within units tags words kept place first.0 first.1 in
      let block = slice_range words place (place + 2 ^ first.0) in
      let long = length_of units tags words kept place first.0 first.1 in
      ap (λ b. slice_get b index) (sym (block_known tags words place first.0 first.1))
      ∙ slice_get-get_or block index 0 (omega (arith, small, long))
      ∙ ap Some (index_range words place (2 ^ first.0) index small ∙ sym is)

  pub word_fits : (value : ℕ) → value ≡ get_or words (place + index) 0 → value < 2 ^ word_bits
  word_fits value is =
      subst (λ (w : ℕ). w < 2 ^ word_bits) (sym is)
      (All-get_or (λ word. word < 2 ^ word_bits) words (place + index) 0 word_within kept.are_words)

-- where the block has none of that index, there is none
pub no_word : (units : ℕ) (tags : List Tag) (words sizes : List ℕ) → IsKept units tags words →
    AreSizes tags sizes → (place index : ℕ) → get_or sizes place 0 ≤ index →
    slice_get (block_at (gathered tags words (length tags)) place) index ≡ None
no_word units tags words sizes kept sized place index past =
    slice_get_past (block_at (gathered tags words (length tags)) place) index
    (omega (arith, past, size_is units tags words sizes kept sized place))
