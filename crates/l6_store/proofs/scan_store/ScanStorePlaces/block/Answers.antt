use Rattle.std.proofs.Common.{◌≡◌, refl, ℕ, ◌+◌, ◌^◌, ◌≤◌, List, length, slice_range, ap, ◌∙◌, arith, rules}
use Rattle.l6_store.specs.Blocks.{block_at}
use Rattle.l6_store.specs.Store.{Store}
use Rattle.l6_store.specs.inner.Tags.{level_of, tag_at}
use Rattle.l6_store.specs.declared.tag.Tag.TheVariants.{First}
use Rattle.l6_store.proofs.Calls.{live_at, first_same, block_within, block_known}
use Rattle.l6_store.proofs.scan_store.ScanStorePlaces.block.Goals as goal

pub block_level-level-requires : goal.block_level-level-requires
block_level-level-requires c =
    live_at c.self.inside.units c.self.inside.tags.items c.self.inside.words.items c.args.self.now
    c.self.view_is
    c.deref.result.now c.args.place (level_of (tag_at c.deref.result.now c.args.place))
    c.deref.ensures.value refl
    c.requires

pub size_of-requires : goal.size_of-requires
size_of-requires c =
    let first : tag_at c.self.inside.tags.items c.args.place ≡ First c.block_level-level.result
    = first_same c.self.inside.tags.items c.deref.result.now c.args.place c.block_level-level.result
    c.deref.ensures.value c.block_level-level.ensures in
    (c.self.invariant.kept.are_tags.first c.args.place c.block_level-level.result first).small

pub overflow_add-result : goal.overflow_add-result
overflow_add-result c =
    let first : tag_at c.self.inside.tags.items c.args.place ≡ First c.block_level-level.result
    = first_same c.self.inside.tags.items c.deref.result.now c.args.place c.block_level-level.result
    c.deref.ensures.value c.block_level-level.ensures in
    let within = block_within c.self.inside.units c.self.inside.tags.items c.self.inside.words.items
    c.self.invariant.kept c.args.place c.block_level-level.result first in
    let fits : c.args.place + c.size_of.result ≤ length c.deref-2.result.now
    = omega (arith, within, c.size_of.ensures, ap length c.deref-2.ensures.value) in
    omega (arith, fits)

pub slice_bounds-result-end : goal.slice_bounds-result-end
slice_bounds-result-end c =
    let first : tag_at c.self.inside.tags.items c.args.place ≡ First c.block_level-level.result
    = first_same c.self.inside.tags.items c.deref.result.now c.args.place c.block_level-level.result
    c.deref.ensures.value c.block_level-level.ensures in
    let within = block_within c.self.inside.units c.self.inside.tags.items c.self.inside.words.items
    c.self.invariant.kept c.args.place c.block_level-level.result first in
    let fits : c.args.place + c.size_of.result ≤ length c.deref-2.result.now
    = omega (arith, within, c.size_of.ensures, ap length c.deref-2.ensures.value) in
    search rules

pub returns-clause-value : goal.returns-clause-value
returns-clause-value c =
    let first : tag_at c.self.inside.tags.items c.args.place ≡ First c.block_level-level.result
    = first_same c.self.inside.tags.items c.deref.result.now c.args.place c.block_level-level.result
    c.deref.ensures.value c.block_level-level.ensures in
    ap (λ (size : ℕ). slice_range c.deref-2.result.now c.args.place (c.args.place + size))
    c.size_of.ensures
    ∙ ap (λ (words : List ℕ). slice_range words c.args.place
    (c.args.place + 2 ^ c.block_level-level.result)) c.deref-2.ensures.value
    ∙ block_known c.self.inside.tags.items c.self.inside.words.items c.args.place
    c.block_level-level.result first
    ∙ ap (λ (s : Store). block_at s.blocks c.args.place) c.self.view_is
