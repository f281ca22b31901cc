-- What is true of each plain store, and of its meaning.
use Rattle.std.proofs.Common.{◌≡◌, ℕ, ◌+◌, ◌^◌, ◌<◌, ◌≤◌, List, [], length, slice_range, drop, Bool, true, false, Option, Some, None, refl, ap, sym, ◌∙◌, subst, arith, inl, inr}
use Rattle.std.proofs.lemmas.Bool.{cases_lt, cases_eq}
use Rattle.std.proofs.lemmas.Nat.{pow_pos}
use Rattle.std.proofs.lemmas.List.Elements.{All-take, All-drop, All-same}
use Rattle.l6_word.specs.Numerals.{word_bits, largest_level}
use Rattle.l6_store.specs.Blocks.{Blocks, Fits, end_of}
use Rattle.l6_store.specs.Open.{IsOpen, IsAnswer}
use Rattle.l6_store.specs.Scan.{scan_rule, is_open}
use Rattle.l6_store.specs.Least.{least}
use Rattle.l6_store.specs.Store.{IsSound, picked}
use Rattle.l6_store.specs.inner.Tags.{tag_at, gathered, store_of, AreTags, IsKept}
use Rattle.l6_store.specs.inner.PlaceTags.{IsVacantRun, IsLowest}
use Rattle.l6_store.specs.declared.tag.Tag.{Tag}
use Rattle.l6_store.specs.declared.tag.Tag.TheVariants.{Free, First, Inside}
use Rattle.l6_store.proofs.Least.{Answers, least_answers, answers_alone}
use Rattle.l6_store.proofs.Ranges.{length_range}
use Rattle.l6_store.proofs.Gathered.{determined, determines}
use Rattle.l6_store.proofs.Scan.{is_open_holds, is_open_made, scan_chooses}

-- two blocks share no place
pub block_apart : (units : ℕ) (tags : List Tag) → AreTags units tags → (one other level others : ℕ)
    → tag_at tags one ≡ First level → tag_at tags other ≡ First others → one < other
    → one + 2 ^ level ≤ other
block_apart units tags kept one other level others first second less =
    elim (cases_lt other (one + 2 ^ level)) as (λ _. one + 2 ^ level ≤ other) [
      | inl within ↦ let inside = kept.rest one level other first less within in cc
      | inr apart ↦ apart
    ]

-- the words of a block
pub length_of : (units : ℕ) (tags : List Tag) (words : List ℕ) → IsKept units tags words
    → (place level : ℕ) → tag_at tags place ≡ First level
    → length (slice_range words place (place + 2 ^ level)) ≡ 2 ^ level
length_of units tags words kept place level first =
    let is_aligned = kept.are_tags.first place level first in
    length_range words place (2 ^ level) (omega (arith, kept.count, is_aligned.within))

pub fits_of : (units : ℕ) (tags : List Tag) (words : List ℕ) → IsKept units tags words
    → Fits units (gathered tags words (length tags))
fits_of units tags words kept = record {
  each = λ place block is.
      let from = determined tags words place block is in
      record {
        level = from.level;
        size = ap length from.is ∙ length_of units tags words kept place from.level from.tag;
        is_aligned = kept.are_tags.first place from.level from.tag;
        are_words
            = All-same (λ word. word < 2 ^ word_bits) block
            (slice_range words place (place + 2 ^ from.level)) from.is
            (All-take (λ word. word < 2 ^ word_bits) _ (drop place words)
            (All-drop (λ word. word < 2 ^ word_bits) place words kept.are_words));
      };
  apart = λ one other block others is is_other less.
      let first = determined tags words one block is in
      let second = determined tags words other others is_other in
      let size : length block ≡ 2 ^ first.level = ap length first.is
      ∙ length_of units tags words kept one first.level first.tag in
      let apart = block_apart units tags kept.are_tags one other first.level second.level first.tag
      second.tag less in
      omega (arith, size, apart);
}

pub sound_of : (units : ℕ) (tags : List Tag) (words : List ℕ) → IsKept units tags words
    → IsSound scan_rule (store_of units tags words)
sound_of units tags words kept = record {
  some = kept.some;
  most = kept.most;
  fits = fits_of units tags words kept;
  chooses = scan_chooses units (gathered tags words (length tags)) [];
}

-- places that are tagged free are open
pub open_of_run : (units : ℕ) (tags : List Tag) (words : List ℕ) → IsKept units tags words
    → (size place : ℕ) → IsVacantRun tags size place
    → IsOpen units (gathered tags words (length tags)) size place
open_of_run units tags words kept size place run = record {
  aligned = run.aligned;
  above = run.above;
  within = omega (arith, run.within, kept.are_tags.count);
  free = λ start block at is from before after.
      let by = determined tags words start block is in
      let counts : length block ≡ 2 ^ by.level = ap length by.is
      ∙ length_of units tags words kept start by.level by.tag in
      let free = run.free at from before in
      elim (cases_lt at (start + 2 ^ by.level)) as (λ _. start + length block ≤ at) [
        | inr following ↦ omega (arith, counts)
        | inl below ↦ elim (cases_eq start at) as (λ _. start + length block ≤ at) [
          | inl same ↦ let first = sym (ap (tag_at tags) same) ∙ by.tag in cc
          | inr other ↦
              let inside = kept.are_tags.rest start by.level at by.tag (omega arith) below in cc
        ]
      ];
}

free_by : (units : ℕ) (tags : List Tag) (words : List ℕ) → IsKept units tags words
    → (size place : ℕ)
    → IsOpen units (gathered tags words (length tags)) size place → (at : ℕ) → place ≤ at
    → at < place + size
    → (tag : Tag) → tag_at tags at ≡ tag → tag ≡ Free
free_by units tags words kept size place clear at from before Free is = refl
free_by units tags words kept size place clear at from before (First level) is =
    let size_is = length_of units tags words kept at level is in
    let ends
    = clear.free at (slice_range words at (at + 2 ^ level)) at (determines tags words at level is)
    from before (omega arith) in
    absurd (omega (arith, pow_pos level, size_is, ends))
free_by units tags words kept size place clear at from before Inside is =
    let inside = kept.are_tags.inside at is in
    let size_is = length_of units tags words kept inside.place inside.level inside.is in
    let ends
    = clear.free inside.place (slice_range words inside.place (inside.place + 2 ^ inside.level)) at
    (determines tags words inside.place inside.level inside.is) from before
    (omega (arith, inside.after)) in
    absurd (omega (arith, size_is, ends, inside.before))

-- and the other way round
pub run_of_open : (units : ℕ) (tags : List Tag) (words : List ℕ) → IsKept units tags words
    → (size place : ℕ)
    → IsOpen units (gathered tags words (length tags)) size place → IsVacantRun tags size place
run_of_open units tags words kept size place clear = record {
  aligned = clear.aligned;
  above = clear.above;
  within = omega (arith, clear.within, kept.are_tags.count);
  free = λ at from before. free_by units tags words kept size place clear at from before
      (tag_at tags at) refl;
}

not_open_by : (units : ℕ) (tags : List Tag) (words : List ℕ) → IsKept units tags words
    → (size place : ℕ) → (IsVacantRun tags size place → ⊥)
    → (test : Bool) → is_open units (gathered tags words (length tags)) size place ≡ test
    → test ≡ false
not_open_by units tags words kept size place closed false is = refl
not_open_by units tags words kept size place closed true is =
    absurd
    (closed (run_of_open units tags words kept size place
    (is_open_holds units (gathered tags words (length tags)) size place is)))

not_open : (units : ℕ) (tags : List Tag) (words : List ℕ) → IsKept units tags words
    → (size place : ℕ) → (IsVacantRun tags size place → ⊥)
    → is_open units (gathered tags words (length tags)) size place ≡ false
not_open units tags words kept size place closed =
    not_open_by units tags words kept size place closed
    (is_open units (gathered tags words (length tags)) size place) refl

answers_of_lowest : (units : ℕ) (tags : List Tag) (words : List ℕ) → IsKept units tags words
    → (size : ℕ) → 0 < size → (answer : Option ℕ)
    → IsLowest tags size answer
    → Answers (end_of units) (is_open units (gathered tags words (length tags)) size) answer
unfolding Answers
answers_of_lowest units tags words kept size some (Some place) lowest =
    let clear = open_of_run units tags words kept size place lowest.0 in (
      omega (arith, clear.within),
      is_open_made units (gathered tags words (length tags)) size place some clear,
      λ lower less. not_open units tags words kept size lower (lowest.1 lower less),
    )
answers_of_lowest units tags words kept size some None none =
    λ place below. not_open units tags words kept size place (none place)

-- the lowest free place is the rule's pick
pub picked_of_lowest : (units : ℕ) (tags : List Tag) (words : List ℕ) → IsKept units tags words
    → (level : ℕ) (answer : Option ℕ)
    → IsLowest tags (2 ^ level) answer → answer ≡ picked scan_rule (store_of units tags words) level
picked_of_lowest units tags words kept level answer lowest =
    let blocks : Blocks = gathered tags words (length tags) in
    answers_alone (end_of units) (is_open units blocks (2 ^ level)) answer
    (least (end_of units) (is_open units blocks (2 ^ level)))
    (answers_of_lowest units tags words kept (2 ^ level) (pow_pos level) answer lowest)
    (least_answers (end_of units) (is_open units blocks (2 ^ level)))

pub answer_of_lowest : (units : ℕ) (tags : List Tag) (words : List ℕ) → IsKept units tags words
    → (level : ℕ) (answer : Option ℕ)
    → level ≤ largest_level → IsLowest tags (2 ^ level) answer
    → IsAnswer units (gathered tags words (length tags)) (2 ^ level) answer
answer_of_lowest units tags words kept level answer small lowest =
    subst (IsAnswer units (gathered tags words (length tags)) (2 ^ level))
    (sym (picked_of_lowest units tags words kept level answer lowest))
    (scan_chooses units (gathered tags words (length tags)) [] level small)
