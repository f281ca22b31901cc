-- What becomes of the tags of a plain store at a get and a free.
use Rattle.std.proofs.Common.{◌≡◌, ℕ, ◌+◌, ◌^◌, ◌<◌, ◌≤◌, List, ap, sym, ◌∙◌, subst, arith, inl, inr}
use Rattle.std.proofs.lemmas.Bool.{cases_lt, cases_eq}
use Rattle.std.proofs.lemmas.Nat.{pow_pos}
use Rattle.l6_store.specs.Blocks.{IsAlignedPlace}
use Rattle.l6_store.specs.inner.Tags.{tag_at, AreTags, IsInside}
use Rattle.l6_store.specs.inner.PlaceTags.{IsVacantRun, IsTagged, IsFilled}
use Rattle.l6_store.specs.declared.tag.Tag.{Tag}
use Rattle.l6_store.specs.declared.tag.Tag.TheVariants.{Free, First, Inside}
use Rattle.l6_store.proofs.Kept.{block_apart}

-- a place has its tag as it was, or is one of a run
pub data Change (old new : List Tag) (place size at : ℕ) : Type 0 where
  as_before : tag_at new at ≡ tag_at old at → Change old new place size at
  in_run : place ≤ at → at < place + size → Change old new place size at

pub tagged_change : (old new : List Tag) (place level : ℕ) → IsTagged old new place level → (at : ℕ)
    → Change old new place (2 ^ level) at
tagged_change old new place level with_tag at =
    elim (cases_lt at place) as (λ _. Change old new place (2 ^ level) at) [
      | inl less ↦ as_before (with_tag.before at less)
      | inr from ↦ elim (cases_lt at (place + 2 ^ level))
          as (λ _. Change old new place (2 ^ level) at) [
            | inl less ↦ in_run from less
            | inr past ↦ as_before (with_tag.following at past)
          ]
    ]

pub untagged_change : (old new : List Tag) (place size : ℕ) → IsFilled old new place size Free
    → (at : ℕ) → Change old new place size at
untagged_change old new place size untagged at =
    elim (cases_lt at place) as (λ _. Change old new place size at) [
      | inl less ↦ as_before (untagged.before at less)
      | inr from ↦ elim (cases_lt at (place + size)) as (λ _. Change old new place size at) [
        | inl less ↦ in_run from less
        | inr past ↦ as_before (untagged.following at past)
      ]
    ]

-- the one first place of a new block
tagged_first : (old new : List Tag) (place level : ℕ) → IsTagged old new place level → (q k : ℕ)
    → place ≤ q → q < place + 2 ^ level
    → tag_at new q ≡ First k → (place ≡ q) × (level ≡ k)
tagged_first old new place level with_tag q k from before is =
    elim (cases_eq place q) as (λ _. (place ≡ q) × (level ≡ k)) [
      | inl same ↦ let first : First level ≡ First k = sym with_tag.first ∙ ap (tag_at new) same
          ∙ is in (same, (cc))
      | inr other ↦ let inside = with_tag.rest q (omega arith) before in cc
    ]

module _ (units : ℕ) (old new : List Tag) (place level : ℕ) (were : AreTags units old)
    (is_aligned : IsAlignedPlace units level place)
    (run : IsVacantRun old (2 ^ level) place) (with_tag : IsTagged old new place level) where
  tagged-is_aligned : (q k : ℕ) → tag_at new q ≡ First k → IsAlignedPlace units k q
  tagged-is_aligned q k is =
      elim (tagged_change old new place level with_tag q) as (λ _. IsAlignedPlace units k q) [
        | as_before same ↦ were.first q k (sym same ∙ is)
        | in_run from before ↦
            let first = tagged_first old new place level with_tag q k from before is in
            subst (λ (p : ℕ). IsAlignedPlace units k p) first.0
            (subst (λ (l : ℕ). IsAlignedPlace units l place) first.1 is_aligned)
      ]

  tagged-rest_of : (q k at : ℕ) → tag_at new q ≡ First k → q < at → at < q + 2 ^ k
      → tag_at new at ≡ Inside
  tagged-rest_of q k at is after before =
      elim (tagged_change old new place level with_tag q) as (λ _. tag_at new at ≡ Inside) [
        | as_before same ↦
            let inside : tag_at old at ≡ Inside = were.rest q k at (sym same ∙ is) after before in
            elim (tagged_change old new place level with_tag at) as (λ _. tag_at new at ≡ Inside) [
              | as_before same_at ↦ same_at ∙ inside
              | in_run from less ↦ let free = run.free at from less in cc
            ]
        | in_run from less ↦
            let first = tagged_first old new place level with_tag q k from less is in
            let power : 2 ^ level ≡ 2 ^ k = ap (λ (l : ℕ). 2 ^ l) first.1 in
            with_tag.rest at (omega (arith, first.0)) (omega (arith, first.0, power))
      ]

  tagged-inside_of : (at : ℕ) → tag_at new at ≡ Inside → IsInside new at
  tagged-inside_of at is =
      elim (tagged_change old new place level with_tag at) as (λ _. IsInside new at) [
        | as_before same ↦
            let was = were.inside at (sym same ∙ is) in
            elim (tagged_change old new place level with_tag was.place) as (λ _. IsInside new at) [
              | as_before same_place ↦
                  record {
                    place = was.place;
                    level = was.level;
                    is = same_place ∙ was.is;
                    after = was.after;
                    before = was.before;
                  }
              | in_run from less ↦ let free = run.free was.place from less in let first = was.is in
                  cc
            ]
        | in_run from less ↦
            elim (cases_eq place at) as (λ _. IsInside new at) [
              | inl same ↦ let first = sym (ap (tag_at new) same) ∙ with_tag.first in cc
              | inr other ↦
                  record {
                    place = place;
                    level = level;
                    is = with_tag.first;
                    after = omega arith;
                    before = less;
                  }
            ]
      ]

  pub tagged-are_tags : AreTags units new
  tagged-are_tags
      = record {
        count = with_tag.count ∙ were.count;
        first = tagged-is_aligned;
        rest = tagged-rest_of;
        inside = tagged-inside_of;
      }

module _ (units : ℕ) (old new : List Tag) (place level : ℕ) (were : AreTags units old)
    (was_first : tag_at old place ≡ First level)
    (untagged : IsFilled old new place (2 ^ level) Free) where
  untagged-is_aligned : (q k : ℕ) → tag_at new q ≡ First k → IsAlignedPlace units k q
  untagged-is_aligned q k is =
      elim (untagged_change old new place (2 ^ level) untagged q) as (λ _. IsAlignedPlace units k q) [
        | as_before same ↦ were.first q k (sym same ∙ is)
        | in_run from before ↦ let free = untagged.filled q from before in cc
      ]

  -- another block has no place of the block that was freed
  apart_from : (q k at : ℕ) → tag_at old q ≡ First k → tag_at new q ≡ First k → q < at
      → at < q + 2 ^ k → place ≤ at → at < place + 2 ^ level → ⊥
  apart_from q k at was is after before from less =
      elim (cases_lt q place) as (λ _. ⊥) [
        | inl lower ↦
            absurd (omega (arith, block_apart units old were q place k level was was_first lower))
        | inr upper ↦ elim (cases_eq place q) as (λ _. ⊥) [
          | inl same ↦ let free = untagged.filled q (omega arith) (omega (arith, pow_pos level)) in
              cc
          | inr other ↦
              absurd
              (omega (
                arith,
                block_apart units old were place q level k was_first was
                    (omega arith),
              ))
        ]
      ]

  untagged-rest_of : (q k at : ℕ) → tag_at new q ≡ First k → q < at → at < q + 2 ^ k
      → tag_at new at ≡ Inside
  untagged-rest_of q k at is after before =
      elim (untagged_change old new place (2 ^ level) untagged q) as (λ _. tag_at new at ≡ Inside) [
        | as_before same ↦
            let was : tag_at old q ≡ First k = sym same ∙ is in
            let inside : tag_at old at ≡ Inside = were.rest q k at was after before in
            elim (untagged_change old new place (2 ^ level) untagged at)
            as (λ _. tag_at new at ≡ Inside) [
              | as_before same_at ↦ same_at ∙ inside
              | in_run from less ↦ absurd (apart_from q k at was is after before from less)
            ]
        | in_run from less ↦ let free = untagged.filled q from less in cc
      ]

  untagged-inside_of : (at : ℕ) → tag_at new at ≡ Inside → IsInside new at
  untagged-inside_of at is =
      elim (untagged_change old new place (2 ^ level) untagged at) as (λ _. IsInside new at) [
        | as_before same ↦
            let was = were.inside at (sym same ∙ is) in
            elim (untagged_change old new place (2 ^ level) untagged was.place)
            as (λ _. IsInside new at) [
              | as_before same_place ↦
                  record {
                    place = was.place;
                    level = was.level;
                    is = same_place ∙ was.is;
                    after = was.after;
                    before = was.before;
                  }
              | in_run from less ↦
                  elim (cases_eq place was.place) as (λ _. IsInside new at) [
                    | inl there ↦
                        let first : First level ≡ First was.level = sym was_first
                        ∙ ap (tag_at old) there ∙ was.is in
                        let levels : level ≡ was.level = cc in
                        let power : 2 ^ level ≡ 2 ^ was.level = ap (λ (l : ℕ). 2 ^ l) levels in
                        let free
                        = untagged.filled at (omega (arith, was.after))
                        (omega (arith, was.before, power, there)) in
                        cc
                    | inr other ↦
                        let inside = were.rest place level was.place was_first (omega arith) less in
                        let first = was.is in cc
                  ]
            ]
        | in_run from less ↦ let free = untagged.filled at from less in cc
      ]

  pub untagged-are_tags : AreTags units new
  untagged-are_tags
      = record {
        count = untagged.count ∙ were.count;
        first = untagged-is_aligned;
        rest = untagged-rest_of;
        inside = untagged-inside_of;
      }
