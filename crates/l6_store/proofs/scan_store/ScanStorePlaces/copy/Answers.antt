use Rattle.std.proofs.Common.{◌≡◌, refl, ℕ, ◌+◌, ◌-◌, ◌^◌, ◌≤◌, get_or, ap, sym, ◌∙◌, arith}
use Rattle.l6_store.specs.Blocks.{block_at}
use Rattle.l6_store.specs.Store.{Store, with_block}
use Rattle.l6_store.specs.inner.Tags.{level_of, tag_at, IsKept}
use Rattle.l6_store.specs.inner.PlaceTags.{IsCopied}
use Rattle.l6_store.specs.declared.tag.Tag.TheVariants.{First}
use Rattle.l6_store.proofs.Kept.{sound_of}
use Rattle.l6_store.proofs.Calls.{live_at, first_same, block_within, same_level, copied_kept, copied_store}
use Rattle.l6_store.proofs.scan_store.ScanStorePlaces.copy.Goals as goal

pub block_level-level-requires : goal.block_level-level-requires
block_level-level-requires c =
    live_at c.self.inside.units c.self.inside.tags.items c.self.inside.words.items c.args.self.now
    c.self.view_is
    c.deref.result.now c.args.from (level_of (tag_at c.deref.result.now c.args.from))
    c.deref.ensures.value refl
    c.requires.from_live

pub size_of-requires : goal.size_of-requires
size_of-requires c =
    let first : tag_at c.self.inside.tags.items c.args.from ≡ First c.block_level-level.result
    = first_same c.self.inside.tags.items c.deref.result.now c.args.from c.block_level-level.result
    c.deref.ensures.value c.block_level-level.ensures in
    (c.self.invariant.kept.are_tags.first c.args.from c.block_level-level.result first).small

pub overflow_add-from : goal.overflow_add-from
overflow_add-from c =
    let first : tag_at c.self.inside.tags.items c.args.from ≡ First c.block_level-level.result
    = first_same c.self.inside.tags.items c.deref.result.now c.args.from c.block_level-level.result
    c.deref.ensures.value c.block_level-level.ensures in
    let within = block_within c.self.inside.units c.self.inside.tags.items c.self.inside.words.items
    c.self.invariant.kept c.args.from c.block_level-level.result first in
    omega (arith, within, c.size_of.ensures, c.self.inside.words.ok.0)

pub copy_within-requires-clause-in_bounds : goal.copy_within-requires-clause-in_bounds
copy_within-requires-clause-in_bounds c =
    let first : tag_at c.self.inside.tags.items c.args.from ≡ First c.block_level-level.result
    = first_same c.self.inside.tags.items c.deref.result.now c.args.from c.block_level-level.result
    c.deref.ensures.value c.block_level-level.ensures in
    let within = block_within c.self.inside.units c.self.inside.tags.items c.self.inside.words.items
    c.self.invariant.kept c.args.from c.block_level-level.result first in
    omega (arith, within, c.size_of.ensures, c.self.inside.words.ok.0)

first : (c : goal.After-copy_within)
    → tag_at c.self.inside.tags.items c.args.from ≡ First c.block_level-level.result
first c =
    first_same c.self.inside.tags.items c.deref.result.now c.args.from c.block_level-level.result
    c.deref.ensures.value c.block_level-level.ensures

second : (c : goal.After-copy_within)
    → tag_at c.self.inside.tags.items c.args.to ≡ First c.block_level-level.result
second c =
    same_level c.self.inside.units c.self.inside.tags.items c.self.inside.words.items
    c.args.self.now c.self.view_is c.self.invariant.kept
    c.args.from c.args.to c.block_level-level.result (first c) c.requires.to_live c.requires.size

copied : (c : goal.After-copy_within)
    → IsCopied c.self.inside.words.items c.copy_within.new.self.items c.args.from c.args.to
    (2 ^ c.block_level-level.result)
copied c = record {
  count = sym c.copy_within.new.self.ok.0 ∙ c.copy_within.ensures.len ∙ c.self.inside.words.ok.0;
  copied = λ k below.
      let index : c.args.from + (c.args.to + k - c.args.to) ≡ c.args.from + k = omega arith in
      c.copy_within.ensures.by_index.0 (c.args.to + k) 0 (omega arith)
      (omega (arith, below, c.size_of.ensures))
      ∙ ap (λ (i : ℕ). get_or c.self.inside.words.items i 0) index;
  before = λ at less. c.copy_within.ensures.by_index.1 at 0 less;
  following
      = λ at past. c.copy_within.ensures.by_index.2 at 0 (omega (arith, past, c.size_of.ensures));
}

pub copy_within-requires-clause-dest_in_bounds : goal.copy_within-requires-clause-dest_in_bounds
copy_within-requires-clause-dest_in_bounds c =
    let first : tag_at c.self.inside.tags.items c.args.from ≡ First c.block_level-level.result
    = first_same c.self.inside.tags.items c.deref.result.now c.args.from c.block_level-level.result
    c.deref.ensures.value c.block_level-level.ensures in
    let second = same_level c.self.inside.units c.self.inside.tags.items c.self.inside.words.items
    c.args.self.now c.self.view_is c.self.invariant.kept
    c.args.from c.args.to c.block_level-level.result first c.requires.to_live c.requires.size in
    let within = block_within c.self.inside.units c.self.inside.tags.items c.self.inside.words.items
    c.self.invariant.kept c.args.to c.block_level-level.result second in
    let fits : c.args.to + (c.args.from + c.size_of.result - c.args.from) ≤ c.self.inside.words.len
    = omega (arith, within, c.size_of.ensures, c.self.inside.words.ok.0) in
    fits

kept : (c : goal.After-copy_within)
    → IsKept c.self.inside.units c.self.inside.tags.items c.copy_within.new.self.items
kept c =
    let within = block_within c.self.inside.units c.self.inside.tags.items c.self.inside.words.items
    c.self.invariant.kept c.args.from c.block_level-level.result (first c) in
    copied_kept c.self.inside.units c.self.inside.tags.items c.self.inside.words.items
    c.copy_within.new.self.items c.self.invariant.kept
    c.args.from c.args.to (2 ^ c.block_level-level.result) within (copied c)

pub invariant_of-self : goal.invariant_of-self
invariant_of-self c = record {
  kept = kept c;
  sized = c.self.invariant.sized;
  full = c.self.invariant.full;
}

pub returns-clause-after : goal.returns-clause-after
returns-clause-after c =
    copied_store c.self.inside.units c.self.inside.tags.items c.self.inside.words.items
    c.copy_within.new.self.items c.self.invariant.kept
    c.args.from c.args.to c.block_level-level.result (first c) (second c) (copied c)
    ∙ ap (λ (s : Store). with_block s c.args.to (block_at s.blocks c.args.from)) c.self.view_is

pub returns-clause-sound : goal.returns-clause-sound
returns-clause-sound c =
    sound_of c.self.inside.units c.self.inside.tags.items c.copy_within.new.self.items (kept c)
