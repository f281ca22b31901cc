use Rattle.std.proofs.Common.{◌≡◌, ℕ, suc, Bool, false, List, length, replicate, refl, sym, ap, ◌∙◌, subst}
use Rattle.l6_store.specs.inner.ArenaLayout.{place_tag_at}
use Rattle.l6_store.specs.declared.place_tag.PlaceTag.{PlaceTag}
use Rattle.l6_store.specs.declared.place_tag.PlaceTag.TheVariants.{Inner}
use Rattle.std.proofs.lemmas.List.{length-replicate}
use Rattle.l6_word.specs.Numerals.{largest_level}
use Rattle.l6_store.specs.Blocks.{end_of}
use Rattle.l6_raw.proofs.Overwriting.{are_words_zeros}
use Rattle.l6_store.proofs.Arenas.{AreWords}
use Rattle.l6_store.proofs.Fresh.{cleared_laid, cleared_blocks, cleared_order, all_alike, zero_heads}
use Rattle.l6_raw.specs.Pages.{AreUnused}
use Rattle.l6_store.proofs.KeptArenas.{all_inner, all_zero}
use Rattle.l6_store.proofs.arena.Arena.new.Goals as goal

places : (c : goal.In_ok-new-2) → c.end_of-places.result ≡ end_of c.args.units
places c = c.end_of-places.ensures

filled : (c : goal.In_ok-new-2) → length c.in_ok-new.field-0 ≡ end_of c.args.units
filled c =
    ap (λ (words : List ℕ). length words) c.in_ok-new.ensures
    ∙ length-replicate {A = ℕ} c.end_of-places.result 0 ∙ places c

place_tags_are : (c : goal.In_ok-new-2)
    → c.in_ok-new-2.field-0 ≡ replicate c.end_of-places.result Inner
place_tags_are c = c.in_ok-new-2.ensures

count : (c : goal.In_ok-new-2) → length c.in_ok-new-2.field-0 ≡ end_of c.args.units
count c =
    ap (λ (place_tags : List PlaceTag). length place_tags) (place_tags_are c)
    ∙ length-replicate {A = PlaceTag} c.end_of-places.result Inner ∙ places c

inner : (c : goal.In_ok-new-2) → (at : ℕ) → place_tag_at c.in_ok-new-2.field-0 at ≡ Inner
inner c at = ap (λ (place_tags : List PlaceTag). place_tag_at place_tags at) (place_tags_are c)
    ∙ all_alike c.end_of-places.result at

are_words : (c : goal.In_ok-new-2) → AreWords c.in_ok-new.field-0
are_words c = subst AreWords (sym c.in_ok-new.ensures)
    (are_words_zeros c.end_of-places.result)

pub invariant_of-arena : goal.invariant_of-arena
invariant_of-arena c =
    let used : List Bool = replicate 256 false in
    record {
      laid = cleared_laid c.args.units c.in_ok-new.field-0 (replicate (suc largest_level) 0)
          c.in_ok-new-2.field-0 c.requires.some c.requires.most (filled c) (count c) (inner c) refl
          zero_heads (are_words c);
      units_unused = all_inner c.in_ok-new-2.field-0 used (inner c);
      words_unused = subst (λ (words : List ℕ). AreUnused words used) (sym c.in_ok-new.ensures)
          (all_zero c.end_of-places.result used);
    }

places_then : (c : goal.After-arena-2-1) → c.end_of-places.result ≡ end_of c.args.units
places_then c = c.end_of-places.ensures

filled_then : (c : goal.After-arena-2-1) → length c.in_ok-new.field-0 ≡ end_of c.args.units
filled_then c =
    ap (λ (words : List ℕ). length words) c.in_ok-new.ensures
    ∙ length-replicate {A = ℕ} c.end_of-places.result 0 ∙ places_then c

place_tags_are_then : (c : goal.After-arena-2-1)
    → c.in_ok-new-2.field-0 ≡ replicate c.end_of-places.result Inner
place_tags_are_then c = c.in_ok-new-2.ensures

count_then : (c : goal.After-arena-2-1) → length c.in_ok-new-2.field-0 ≡ end_of c.args.units
count_then c =
    ap (λ (place_tags : List PlaceTag). length place_tags) (place_tags_are_then c)
    ∙ length-replicate {A = PlaceTag} c.end_of-places.result Inner ∙ places_then c

inner_then : (c : goal.After-arena-2-1) → (at : ℕ) → place_tag_at c.in_ok-new-2.field-0 at ≡ Inner
inner_then c at = ap (λ (place_tags : List PlaceTag). place_tag_at place_tags at)
    (place_tags_are_then c)
    ∙ all_alike c.end_of-places.result at

are_words_then : (c : goal.After-arena-2-1) → AreWords c.in_ok-new.field-0
are_words_then c = subst AreWords (sym c.in_ok-new.ensures)
    (are_words_zeros c.end_of-places.result)

pub list_units-requires-clause-blocks : goal.list_units-requires-clause-blocks
list_units-requires-clause-blocks c =
    cleared_blocks c.args.units c.in_ok-new.field-0 (replicate (suc largest_level) 0)
    c.in_ok-new-2.field-0 c.requires.some c.requires.most (filled_then c) (count_then c)
    (inner_then c) refl
    zero_heads (are_words_then c)

pub list_units-requires-clause-order : goal.list_units-requires-clause-order
list_units-requires-clause-order c =
    cleared_order c.args.units c.in_ok-new.field-0 (replicate (suc largest_level) 0)
    c.in_ok-new-2.field-0 c.requires.some c.requires.most (filled_then c) (count_then c)
    (inner_then c) refl
    zero_heads (are_words_then c)
