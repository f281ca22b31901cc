-- An arena without blocks: no piece is free at first, and its units are listed one by one.
use Rattle.std.proofs.Common.{◌≡◌, ℕ, zero, suc, ◌+◌, ◌-◌, ◌*◌, ◌<◌, ◌≤◌, List, [], ◌∷◌, ◌++◌, length, get_or, set, replicate, Some, None, refl, ap, sym, ◌∙◌, subst, arith, inl, inr}
use Rattle.std.proofs.lemmas.Bool.{cases_lt}
use Rattle.std.proofs.lemmas.List.{get_or-replicate, get_or_past, length-replicate}
use Rattle.std.specs.FinMap as map
use Rattle.std.specs.Ordering.{nat_cmp}
use Rattle.l6_word.specs.Numerals.{largest_level, unit_size}
use Rattle.l6_store.specs.Numerals.{most_units}
use Rattle.l6_store.specs.Blocks.{Fits, IsAlignedPlace, end_of}
use Rattle.l6_store.specs.Rule.{Order}
use Rattle.l6_store.specs.Buddy.{has, listed, IsListed, in_front, first_order, first_or, units_from}
use Rattle.l6_store.specs.Links.{AreLinked}
use Rattle.l6_store.specs.inner.Chains.{order_of}
use Rattle.l6_store.specs.inner.ArenaLayout.{AreBeside, AreDistinct, AreLists, IsArena, blocks_of, place_tag_at, order_from, tag_of}
use Rattle.l6_store.specs.inner.Tags.{tagged}
use Rattle.l6_store.specs.declared.place_tag.PlaceTag.{PlaceTag}
use Rattle.l6_store.specs.declared.place_tag.PlaceTag.TheVariants.{Inner, Block}
use Rattle.l6_store.proofs.First.{has_none, listed_largest, numbered, only_top, top_only}
use Rattle.l6_store.proofs.Tagged.{blocks_are}
use Rattle.l6_store.proofs.Arenas.{AreWords, laid, order_known}

-- ---- no list has a place
none_listed : (level : ℕ) → listed (replicate (suc largest_level) []) level ≡ []
none_listed level =
    elim (cases_lt level (suc largest_level))
    as (λ _. listed (replicate (suc largest_level) []) level ≡ []) [
      | inl below ↦ get_or-replicate (suc largest_level) level [] [] below
      | inr past ↦ get_or_past (replicate (suc largest_level) []) level []
          (omega (arith, length-replicate {A = List ℕ} (suc largest_level) []))
    ]

none_is_listed : (level place : ℕ) → IsListed (replicate (suc largest_level) []) level place → ⊥
none_is_listed level place is = has_none place (ap (has place) (sym (none_listed level)) ∙ is)

pub no_fits : (units : ℕ) → Fits units map.empty
no_fits units = record {
  each = λ place words is.
      absurd (let none : Some words ≡ None = sym is ∙ map.get-empty nat_cmp place in (cc));
  apart = λ one other words others is is_other less.
      absurd (let none : Some words ≡ None = sym is ∙ map.get-empty nat_cmp one in (cc));
}

module _ (units : ℕ) (words heads : List ℕ) (place_tags : List PlaceTag) (some : 1 ≤ units)
    (most : units ≤ most_units) (filled : length words ≡ end_of units)
    (count : length place_tags ≡ end_of units) (inner : (at : ℕ) → place_tag_at place_tags at ≡ Inner)
    (levels : length heads ≡ suc largest_level) (zeros : (level : ℕ) → get_or heads level 0 ≡ 0)
    (are_words : AreWords words) where
  pub cleared_blocks : blocks_of place_tags words ≡ map.empty
  cleared_blocks = blocks_are place_tags words map.empty
      (λ q. ap (λ (m : PlaceTag). tagged words q (tag_of m)) (inner q) ∙ sym (map.get-empty nat_cmp q))

  cleared_lists : AreLists words heads place_tags (replicate (suc largest_level) [])
  cleared_lists = record {
    levels = length-replicate {A = List ℕ} (suc largest_level) [];
    links = record {
      count = levels ∙ sym (length-replicate {A = List ℕ} (suc largest_level) []);
      begun = λ level. zeros level ∙ sym (ap (λ (ps : List ℕ). first_or ps 0) (none_listed level));
      linked = λ level. subst (λ (ps : List ℕ). AreLinked words 0 ps 0) (sym (none_listed level)) tt;
    };
    distinct = λ level. subst AreDistinct (sym (none_listed level)) tt;
    with_tag = λ level place is. absurd (none_is_listed level place is);
    determined = λ level place is. absurd (let not = inner place in (cc));
    none = inner 0;
  }

  cleared_holds : (level place : ℕ) → place_tag_at place_tags place ≡ Block level →
      IsAlignedPlace units level place
  cleared_holds level place is = absurd (let not = inner place in (cc))

  cleared_beside : AreBeside map.empty (replicate (suc largest_level) [])
  cleared_beside level place is lies = none_is_listed level place is

  pub cleared_laid : IsArena units words place_tags heads
  cleared_laid = laid units words heads place_tags
      (replicate (suc largest_level) []) map.empty some most
      filled count cleared_lists cleared_blocks cleared_holds (no_fits units) are_words
      cleared_beside

  pub cleared_order : order_of words heads ≡ replicate (suc largest_level) []
  cleared_order = order_known units words heads place_tags (replicate (suc largest_level) []) map.empty
      some most filled count cleared_lists cleared_blocks cleared_holds (no_fits units) are_words
      cleared_beside

-- ---- units are listed one by one
more_alike : (count : ℕ) (places : List ℕ)
    → replicate count places ++ places ∷ [] ≡ replicate (suc count) places
more_alike zero places = refl
more_alike (suc count) places =
    ap (λ (lists : Order). places ∷ lists) (more_alike count places)

pub from_none : (units : ℕ) → replicate (suc largest_level) [] ≡ order_from units units
unfolding order_from units_from
from_none units =
    let none : units - units ≡ 0 = omega arith in
    sym (ap (λ (n : ℕ). replicate largest_level []
    ++ units_from (unit_size * units + unit_size) n ∷ []) none
    ∙ more_alike largest_level [])

pub from_all : (units : ℕ) → order_from units 0 ≡ first_order units
unfolding order_from
from_all units =
    let place : unit_size * 0 + unit_size ≡ unit_size = omega arith in
    let count : units - 0 ≡ units = omega arith in
    ap (λ (p : ℕ). replicate largest_level [] ++ units_from p (units - 0) ∷ []) place
    ∙ ap (λ (n : ℕ). replicate largest_level [] ++ units_from unit_size n ∷ []) count

set_last : (count : ℕ) (lists : Order) (old new : List ℕ) → length lists ≡ count
    → set (lists ++ old ∷ []) count new ≡ lists ++ new ∷ []
set_last zero [] old new is = refl
set_last zero (first ∷ rest) old new is = absurd (omega arith)
set_last (suc count) [] old new is = absurd (omega arith)
set_last (suc count) (first ∷ rest) old new is =
    ap (λ (ls : Order). first ∷ ls) (set_last count rest old new (omega arith))

-- one unit more
pub from_more : (units unit : ℕ) → 0 < unit → unit ≤ units
    → in_front (order_from units unit) largest_level (unit * unit_size)
    ≡ order_from units (unit - 1)
unfolding order_from units_from
from_more units unit some most =
    let places : List ℕ = units_from (unit_size * unit + unit_size) (units - unit) in
    let front : set (only_top places) largest_level
    (unit * unit_size ∷ listed (only_top places) largest_level)
    ≡ only_top (unit * unit_size ∷ listed (only_top places) largest_level)
    = set_last largest_level (replicate largest_level []) places
    (unit * unit_size ∷ listed (only_top places) largest_level)
    (length-replicate {A = List ℕ} largest_level []) in
    let first : unit * unit_size ≡ unit_size * (unit - 1) + unit_size = omega arith in
    let next : unit_size * unit + unit_size ≡ unit_size * (unit - 1) + unit_size + unit_size
    = omega arith in
    let count : suc (units - unit) ≡ units - (unit - 1) = omega arith in
    front
    ∙ ap (λ (ps : List ℕ). only_top (unit * unit_size ∷ ps)) (listed_largest places)
    ∙ ap (λ (p : ℕ). only_top (p ∷ places)) first
    ∙ ap (λ (p : ℕ). only_top ((unit_size * (unit - 1) + unit_size) ∷ units_from p (units - unit)))
    next
    ∙ ap (λ (n : ℕ). only_top (units_from (unit_size * (unit - 1) + unit_size) n)) count

-- which is not listed yet
pub from_fresh : (units unit : ℕ) (level : ℕ)
    → IsListed (order_from units unit) level (unit * unit_size) → ⊥
unfolding order_from
from_fresh units unit level is =
    let only = top_only (units_from (unit_size * unit + unit_size) (units - unit)) level
    (unit * unit_size) is in
    let number = numbered (units - unit) (unit_size * unit + unit_size) (unit * unit_size) only.1 in
    omega (arith, number.is)

-- ---- tags and heads as they are made
pub all_alike : (count at : ℕ) → place_tag_at (replicate count Inner) at ≡ Inner
all_alike count at =
    elim (cases_lt at count) as (λ _. place_tag_at (replicate count Inner) at ≡ Inner) [
      | inl below ↦ get_or-replicate count at Inner Inner below
      | inr past ↦ get_or_past (replicate count Inner) at Inner
          (omega (arith, length-replicate {A = PlaceTag} count Inner))
    ]

pub zero_heads : (level : ℕ) → get_or {A = ℕ} (replicate (suc largest_level) 0) level 0 ≡ 0
zero_heads level =
    elim (cases_lt level (suc largest_level))
    as (λ _. get_or {A = ℕ} (replicate (suc largest_level) 0) level 0 ≡ 0) [
      | inl below ↦ get_or-replicate (suc largest_level) level 0 0 below
      | inr past ↦ get_or_past (replicate (suc largest_level) 0) level 0
          (omega (arith, length-replicate {A = ℕ} (suc largest_level) 0))
    ]
