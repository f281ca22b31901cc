use Rattle.std.proofs.Common.{◌≡◌, ℕ, suc, List, length, replicate, refl, ap, ◌∙◌}
use Rattle.l6_store.specs.inner.ArenaLayout.{place_tag_at}
use Rattle.l6_store.specs.declared.place_tag.PlaceTag.{PlaceTag}
use Rattle.l6_store.specs.declared.place_tag.PlaceTag.TheVariants.{Inner}
use Rattle.std.proofs.lemmas.List.{length-replicate}
use Rattle.l6_word.specs.Numerals.{largest_level}
use Rattle.l6_store.specs.Blocks.{end_of}
use Rattle.l6_store.proofs.Fresh.{cleared_laid, cleared_blocks, cleared_order, all_alike, zero_heads}
use Rattle.l6_store.proofs.KeptArenas.{all_inner}
use Rattle.l6_store.proofs.arena.Arena.reset.Goals as goal

place_tags_are : (c : goal.After-self-1) →
    c.clear.new.self ≡ replicate (length c.self.inside.place_tags) Inner
place_tags_are c = c.clear.ensures

count : (c : goal.After-self-1) → length c.clear.new.self ≡ end_of c.self.inside.units
count c =
    ap (λ (place_tags : List PlaceTag). length place_tags) (place_tags_are c)
    ∙ length-replicate {A = PlaceTag} (length c.self.inside.place_tags) Inner
    ∙ c.self.invariant.laid.count

inner : (c : goal.After-self-1) → (at : ℕ) → place_tag_at c.clear.new.self at ≡ Inner
inner c at = ap (λ (place_tags : List PlaceTag). place_tag_at place_tags at) (place_tags_are c)
    ∙ all_alike (length c.self.inside.place_tags) at

pub invariant_of-self : goal.invariant_of-self
invariant_of-self c = record {
  laid = cleared_laid
      c.self.inside.units c.self.inside.words (replicate (suc largest_level) 0)
      c.clear.new.self c.self.invariant.laid.some c.self.invariant.laid.most
      c.self.invariant.laid.filled
      (count c) (inner c) refl zero_heads c.self.invariant.laid.are_blocks.are_words;
  units_unused = all_inner c.clear.new.self c.self.inside.used (inner c);
  words_unused = c.self.invariant.words_unused;
}

place_tags_are_then : (c : goal.After-list_units-arg-1) →
    c.clear.new.self ≡ replicate (length c.self.inside.place_tags) Inner
place_tags_are_then c = c.clear.ensures

count_then : (c : goal.After-list_units-arg-1) → length c.clear.new.self ≡ end_of c.self.inside.units
count_then c =
    ap (λ (place_tags : List PlaceTag). length place_tags) (place_tags_are_then c)
    ∙ length-replicate {A = PlaceTag} (length c.self.inside.place_tags) Inner
    ∙ c.self.invariant.laid.count

inner_then : (c : goal.After-list_units-arg-1) → (at : ℕ) → place_tag_at c.clear.new.self at ≡ Inner
inner_then c at = ap (λ (place_tags : List PlaceTag). place_tag_at place_tags at)
    (place_tags_are_then c)
    ∙ all_alike (length c.self.inside.place_tags) at

pub list_units-requires-clause-blocks : goal.list_units-requires-clause-blocks
list_units-requires-clause-blocks c =
    cleared_blocks
    c.self.inside.units c.self.inside.words (replicate (suc largest_level) 0)
    c.clear.new.self c.self.invariant.laid.some c.self.invariant.laid.most c.self.invariant.laid.filled
    (count_then c) (inner_then c) refl zero_heads c.self.invariant.laid.are_blocks.are_words

pub list_units-requires-clause-order : goal.list_units-requires-clause-order
list_units-requires-clause-order c =
    cleared_order
    c.self.inside.units c.self.inside.words (replicate (suc largest_level) 0)
    c.clear.new.self c.self.invariant.laid.some c.self.invariant.laid.most c.self.invariant.laid.filled
    (count_then c) (inner_then c) refl zero_heads c.self.invariant.laid.are_blocks.are_words
