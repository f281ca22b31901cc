-- Runs of free places, found in the tags.
use Rattle.std.proofs.Common.{subst, ◌≡◌, ℕ, ◌+◌, ◌-◌, ◌*◌, ◌/◌, ◌%◌, ◌^◌, ◌<◌, ◌≤◌, List, length, min, Some, set, drop, slice_range, ap, sym, ◌∙◌, arith, inl, inr}
use Rattle.std.proofs.lemmas.Bool.{cases_lt, cases_eq}
use Rattle.std.proofs.lemmas.Nat.{pow_pos, pow-add, shl-shr, div_below, le-div, mod_low, mul-le, div-add-mod'}
use Rattle.std.proofs.lemmas.List.{length-take-le, length-drop, get_or-take, get_or-drop, get_or-set_same, get_or-set_other, length-set}
use Rattle.l6_word.specs.Numerals.{largest_level, unit_size}
use Rattle.l6_store.specs.inner.Tags.{tag_at}
use Rattle.l6_store.proofs.Changes.{as_before, in_run, tagged_change}
use Rattle.l6_store.specs.inner.PlaceTags.{IsVacantRun, IsLowest, IsFull, IsRaised, IsTagged, IsFilled}
use Rattle.l6_store.specs.declared.tag.Tag.{Tag}
use Rattle.l6_store.specs.declared.tag.Tag.TheVariants.{Free, First, Inside}

-- the first place of a new block is tagged after the others
pub tagged_of_filled : (old filled : List Tag) (place level : ℕ) → place + 2 ^ level ≤ length old
    → IsFilled old filled place (2 ^ level) Inside
    → IsTagged old (set filled place (First level)) place level
tagged_of_filled old filled place level within is = record {
  count = length-set filled place (First level) ∙ is.count;
  first = get_or-set_same filled place (First level) Free (omega (arith, is.count, pow_pos level));
  rest = λ at after before. get_or-set_other filled place at (First level) Free
      (λ same. absurd (omega arith)) ∙ is.filled at (omega arith) before;
  before = λ at less. get_or-set_other filled place at (First level) Free
      (λ same. absurd (omega arith)) ∙ is.before at less;
  following = λ at past. get_or-set_other filled place at (First level) Free
      (λ same. absurd (omega (arith, pow_pos level))) ∙ is.following at past;
}

-- the tags of a part
tag_in : (tags : List Tag) (place size k : ℕ) → k < size
    → tag_at (slice_range tags place (place + size)) k ≡ tag_at tags (place + k)
tag_in tags place size k below =
    get_or-take (place + size - place) (drop place tags) k Free (omega arith)
    ∙ get_or-drop place tags k Free

length_in : (tags : List Tag) (place size : ℕ) → place + size ≤ length tags
    → length (slice_range tags place (place + size)) ≡ size
length_in tags place size within =
    let counts : place + size - place ≡ size = omega arith in
    length-take-le (place + size - place) (drop place tags) (omega (arith, length-drop place tags))
    ∙ counts

-- a unit is a whole number of blocks of each level
unit_whole : (level : ℕ) → level ≤ largest_level → unit_size / 2 ^ level * 2 ^ level ≡ unit_size
unit_whole level small =
    let rest : ℕ = largest_level - level in
    let sum : rest + level ≡ largest_level = omega arith in
    let product : unit_size ≡ 2 ^ rest * 2 ^ level = ap (λ (k : ℕ). 2 ^ k) (sym sum)
    ∙ pow-add 2 rest level in
    ap (λ (u : ℕ). u / 2 ^ level * 2 ^ level) product
    ∙ ap (λ (q : ℕ). q * 2 ^ level) (shl-shr (2 ^ rest) level)
    ∙ sym product

multiple : (number level : ℕ) → number * 2 ^ level % 2 ^ level ≡ 0
multiple number level =
    let padded : number * 2 ^ level ≡ number * 2 ^ level + 0 = omega arith in
    ap (λ (p : ℕ). p % 2 ^ level) padded ∙ mod_low number level 0 (pow_pos level)

-- the tags of a block's places are all free
pub free_run : (tags : List Tag) (low level number size : ℕ) → unit_size ≤ low → size ≡ 2 ^ level
    → level ≤ largest_level → low / size ≤ number
    → number < length tags / size
    → ((k : ℕ) → k < length (slice_range tags (number * size) (number * size + size))
    → tag_at (slice_range tags (number * size) (number * size + size)) k ≡ Free)
    → IsVacantRun tags (2 ^ level) (number * size)
free_run tags low level number size high is small from below free =
    let some : 0 < size = omega (arith, pow_pos level, is) in
    let whole : unit_size / size * size ≡ unit_size = ap (λ (s : ℕ). unit_size / s * s) is
    ∙ unit_whole level small in
    let first : unit_size / size ≤ low / size
    = le-div (unit_size / size) low size some (omega (arith, whole)) in
    let above : unit_size / size * size ≤ number * size
    = mul-le (unit_size / size) size number size (omega arith) (omega arith) in
    let next : (number + 1) * size ≤ length tags / size * size
    = mul-le (number + 1) size (length tags / size) size (omega arith) (omega arith) in
    let divided : length tags / size * size + length tags % size ≡ length tags
    = div-add-mod' (length tags) size in
    let fits : number * size + size ≤ length tags = omega (arith, next, divided) in
    let counts = length_in tags (number * size) size fits in
    record {
      aligned = ap (λ (s : ℕ). number * s % 2 ^ level) is ∙ multiple number level;
      above = omega (arith, whole, above);
      within = omega (arith, fits, is);
      free = λ at after before.
          let index : number * size + (at - number * size) ≡ at = omega arith in
          let inner : at - number * size < size = omega (arith, before, is) in
          ap (tag_at tags) (sym index)
          ∙ sym (tag_in tags (number * size) size (at - number * size) inner)
          ∙ free (at - number * size) (omega (arith, inner, counts));
    }

-- and where they are not, no block of the level is below the next
pub none_lower : (tags : List Tag) (level number size : ℕ) → size ≡ 2 ^ level
    → ((lower : ℕ) → lower < number * 2 ^ level → IsVacantRun tags (2 ^ level) lower → ⊥)
    → (((k : ℕ) → k < length (slice_range tags (number * size) (number * size + size))
    → tag_at (slice_range tags (number * size) (number * size + size)) k ≡ Free) → ⊥)
    → (lower : ℕ) → lower < (number + 1) * 2 ^ level → IsVacantRun tags (2 ^ level) lower → ⊥
none_lower tags level number size is none taken lower below run =
    elim (cases_lt lower (number * 2 ^ level)) as (λ _. ⊥) [
      | inl less ↦ none lower less run
      | inr from ↦
          let some : 0 < 2 ^ level = pow_pos level in
          let less : lower / 2 ^ level < number + 1
          = div_below lower (2 ^ level) (number + 1) some below in
          let more : number ≤ lower / 2 ^ level = le-div number lower (2 ^ level) some from in
          let number_is : lower / 2 ^ level ≡ number = omega arith in
          let divided : lower / 2 ^ level * 2 ^ level + lower % 2 ^ level ≡ lower
          = div-add-mod' lower (2 ^ level) in
          let product : lower / 2 ^ level * 2 ^ level ≡ number * 2 ^ level
          = ap (λ (n : ℕ). n * 2 ^ level) number_is in
          let sizes : number * size ≡ number * 2 ^ level = ap (λ (s : ℕ). number * s) is in
          let there : number * size ≡ lower = omega (arith, divided, product, sizes, run.aligned) in
          let fits : number * size + size ≤ length tags = omega (arith, run.within, is, there) in
          let counts = length_in tags (number * size) size fits in
          taken (λ k within_part.
          let inner : k < size = omega (arith, within_part, counts) in
          tag_in tags (number * size) size k inner
          ∙ run.free (number * size + k) (omega (arith, there)) (omega (arith, there, is, inner)))
    ]

-- below the place where the scan begins no block may be
pub none_below : (tags : List Tag) (low level size : ℕ) → size ≡ 2 ^ level → IsFull tags low
    → (lower : ℕ) → lower < low / size * 2 ^ level → IsVacantRun tags (2 ^ level) lower → ⊥
none_below tags low level size is full lower below run =
    let divided : low / size * size + low % size ≡ low = div-add-mod' low size in
    let sizes : low / size * size ≡ low / size * 2 ^ level = ap (λ (s : ℕ). low / size * s) is in
    full.taken lower run.above (omega (arith, divided, sizes))
    (run.free lower (omega arith) (omega (arith, pow_pos level)))

-- one free place is a run of one
one_free : (tags : List Tag) (at : ℕ) → unit_size ≤ at → at < length tags → tag_at tags at ≡ Free
    → IsVacantRun tags (2 ^ 0) at
one_free tags at above below free = record {
  aligned = omega arith;
  above = above;
  within = omega arith;
  free = λ other from before. (let same : other ≡ at = omega arith in ap (tag_at tags) same ∙ free);
}

not_free_kept : (old new : List Tag) (place level at : ℕ) → IsTagged old new place level
    → tag_at new at ≡ Free
    → (at < place + 2 ^ level) → (at < place) × (tag_at old at ≡ Free)
not_free_kept old new place level at with_tag free before =
    elim (cases_lt at place) as (λ _. (at < place) × (tag_at old at ≡ Free)) [
      | inl less ↦ (less, sym (with_tag.before at less) ∙ free)
      | inr from ↦ elim (cases_eq at place) as (λ _. (at < place) × (tag_at old at ≡ Free)) [
        | inl same ↦ let first = sym (ap (tag_at new) same) ∙ free in let is = with_tag.first in cc
        | inr other ↦ let inside = with_tag.rest at (omega (arith, other)) before in cc
      ]
    ]

pub raised_full : (old new : List Tag) (low place level result : ℕ) → IsFull old low
    → IsLowest old (2 ^ level) (Some place)
    → IsTagged old new place level → IsRaised low place level result → IsFull new result
raised_full old new low place level result full lowest with_tag (inl same) = record {
  above = omega (arith, same, full.above);
  taken = λ at from below free.
      elim (tagged_change old new place level with_tag at) as (λ _. ⊥) [
        | as_before was ↦ full.taken at from (omega (arith, same)) (sym was ∙ free)
        | in_run after before ↦
            let less = (not_free_kept old new place level at with_tag free before).0 in
            absurd (omega (arith, less))
      ];
}
raised_full old new low place level result full lowest with_tag (inr (is, why)) = record {
  above = omega (arith, is, lowest.0.above);
  taken = λ at from below free.
      let was = not_free_kept old new place level at with_tag free (omega (arith, is)) in
      elim why as (λ _. ⊥) [
        | inl single ↦
            lowest.1 at was.0
            (subst (λ (l : ℕ). IsVacantRun old (2 ^ l) at) (sym single)
            (one_free old at from (omega (arith, was.0, lowest.0.within)) was.1))
        | inr there ↦ full.taken at from (omega (arith, was.0, there)) was.1
      ];
}

pub filled_full : (old new : List Tag) (low place size : ℕ) → IsFull old low → unit_size ≤ place
    → IsFilled old new place size Free
    → IsFull new (min low place)
filled_full old new low place size full above filled = record {
  above = omega (arith, full.above);
  taken = λ at from below free. full.taken at from (omega arith)
      (sym (filled.before at (omega arith)) ∙ free);
}
