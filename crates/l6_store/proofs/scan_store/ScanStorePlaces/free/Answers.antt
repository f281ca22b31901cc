use Rattle.std.proofs.Common.{◌≡◌, refl, ℕ, ◌^◌, List, length, ap, sym, ◌∙◌, subst, set, arith}
use Rattle.std.proofs.lemmas.List.{with_items_is}
use Rattle.std.specs.Vec.{with_items}
use Rattle.l6_store.specs.Scan.{scan_rule}
use Rattle.l6_store.specs.Store.{Store, after_free}
use Rattle.l6_store.specs.inner.Tags.{level_of, tag_at, store_of, IsKept}
use Rattle.l6_store.specs.inner.PlaceTags.{AreSizes, IsFull, IsFilled}
use Rattle.l6_store.specs.declared.tag.Tag.{Tag}
use Rattle.l6_store.specs.declared.tag.Tag.TheVariants.{Free, First}
use Rattle.l6_store.proofs.Runs.{filled_full}
use Rattle.l6_store.proofs.Kept.{sound_of}
use Rattle.l6_store.proofs.Sizes.{freed_sizes}
use Rattle.l6_store.proofs.Calls.{live_at, first_same, freed_kept, freed_store}
use Rattle.l6_store.proofs.scan_store.ScanStorePlaces.free.Goals as goal

pub block_level-level-requires : goal.block_level-level-requires
block_level-level-requires c =
    live_at c.self.inside.units c.self.inside.tags.items c.self.inside.words.items c.args.self.now
    c.self.view_is
    c.deref.result.now c.args.place (level_of (tag_at c.deref.result.now c.args.place))
    c.deref.ensures.value refl
    c.requires

pub size_of-requires : goal.size_of-requires
size_of-requires c =
    let first : tag_at c.self.inside.tags.items c.args.place ≡ First c.block_level-level.result
    = first_same c.self.inside.tags.items c.deref.result.now c.args.place c.block_level-level.result
    c.deref.ensures.value c.block_level-level.ensures in
    (c.self.invariant.kept.are_tags.first c.args.place c.block_level-level.result first).small

pub fill-requires : goal.fill-requires
fill-requires c =
    let first : tag_at c.self.inside.tags.items c.args.place ≡ First c.block_level-level.result
    = first_same c.self.inside.tags.items c.deref.result.now c.args.place c.block_level-level.result
    c.deref.ensures.value c.block_level-level.ensures in
    let is_aligned = c.self.invariant.kept.are_tags.first c.args.place c.block_level-level.result first in
    omega (
      arith,
      is_aligned.within,
      c.size_of.ensures,
      ap length c.deref_mut.ensures.value,
      c.self.invariant.kept.are_tags.count,
    )

first : (c : goal.After-self-3-1) →
    tag_at c.self.inside.tags.items c.args.place ≡ First c.block_level-level.result
first c =
    first_same c.self.inside.tags.items c.deref.result.now c.args.place c.block_level-level.result
    c.deref.ensures.value c.block_level-level.ensures

filled : (c : goal.After-self-3-1) →
    IsFilled c.self.inside.tags.items c.fill.new.tags c.args.place (2 ^ c.block_level-level.result) Free
filled c =
    subst (λ (size : ℕ). IsFilled c.self.inside.tags.items c.fill.new.tags c.args.place size Free)
    c.size_of.ensures
    (subst (λ (old : List Tag). IsFilled old c.fill.new.tags c.args.place c.size_of.result Free)
    c.deref_mut.ensures.value c.fill.ensures)

tags_are : (c : goal.After-self-3-1) →
    (with_items c.self.inside.tags c.fill.new.tags).items ≡ c.fill.new.tags
tags_are c =
    with_items_is c.self.inside.tags c.fill.new.tags
    ((filled c).count ∙ sym c.self.inside.tags.ok.0)

kept : (c : goal.After-self-3-1) →
    IsKept c.self.inside.units (with_items c.self.inside.tags c.fill.new.tags).items
    c.self.inside.words.items
kept c =
    subst (λ (ts : List Tag). IsKept c.self.inside.units ts c.self.inside.words.items)
    (sym (tags_are c))
    (freed_kept c.self.inside.units c.self.inside.tags.items c.fill.new.tags
    c.self.inside.words.items c.self.invariant.kept c.args.place
    c.block_level-level.result (first c) (filled c))

pub invariant_of-self : goal.invariant_of-self
invariant_of-self c =
    let is_aligned = c.self.invariant.kept.are_tags.first c.args.place c.block_level-level.result
    (first c) in
    record {
      kept = kept c;
      sized = subst (λ (ts : List Tag). AreSizes ts (set c.self.inside.sizes.items c.args.place 0))
          (sym (tags_are c))
          (freed_sizes c.self.inside.units c.self.inside.tags.items c.fill.new.tags
          c.self.inside.words.items c.self.inside.sizes.items c.args.place c.block_level-level.result
          c.self.invariant.kept c.self.invariant.sized (first c) (filled c));
      full = subst (λ (ts : List Tag). IsFull ts c.min-self-inside.result) (sym (tags_are c))
          (subst (λ (low : ℕ). IsFull c.fill.new.tags low) (sym c.min-self-inside.ensures)
          (filled_full c.self.inside.tags.items c.fill.new.tags c.self.inside.low c.args.place
          (2 ^ c.block_level-level.result)
          c.self.invariant.full is_aligned.above (filled c)));
    }

pub returns-clause-after : goal.returns-clause-after
returns-clause-after c =
    ap (λ (ts : List Tag). store_of c.self.inside.units ts c.self.inside.words.items) (tags_are c)
    ∙ freed_store c.self.inside.units c.self.inside.tags.items c.fill.new.tags
    c.self.inside.words.items c.self.invariant.kept c.args.place
    c.block_level-level.result (first c) (filled c)
    ∙ ap (λ (s : Store). after_free scan_rule s c.args.place) c.self.view_is

pub returns-clause-sound : goal.returns-clause-sound
returns-clause-sound c =
    sound_of c.self.inside.units (with_items c.self.inside.tags c.fill.new.tags).items
    c.self.inside.words.items (kept c)
