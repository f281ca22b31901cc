use Rattle.std.proofs.Common.{◌≡◌, ℕ, ◌+◌, ◌<◌, List, get_or, slice_get, ap, arith, sym, ◌∙◌}
use Rattle.std.proofs.lemmas.Grind.{get_or_default_zero}
use Rattle.l6_store.specs.Blocks.{block_at}
use Rattle.l6_store.specs.Store.{Store}
use Rattle.l6_store.proofs.Sizes.{no_word, word_fits, word_is, word_near, word_within}
use Rattle.l6_store.proofs.scan_store.ScanStorePlaces.word.Goals as goal
use Rattle.l6_store.proofs.scan_store.ScanStorePlaces.word.Goals.{After-index, After-size_at, Then-index-size_at}

-- the size that is looked at is that of the block, ..
size_here : (c : After-size_at) →
    c.size_at.result ≡ get_or c.self.inside.sizes.items c.args.start 0
size_here c =
    c.size_at.ensures
    ∙ ap (λ (sizes : List ℕ). get_or sizes c.get-start.result 0) c.deref.ensures.value
    ∙ ap (λ (place : ℕ). get_or c.self.inside.sizes.items place 0) c.get-start.ensures.value

-- .. so it says whether the block has the word
below_size : (c : Then-index-size_at) →
    c.args.index < get_or c.self.inside.sizes.items c.args.start 0
below_size c = omega (arith, c.if-index-size_at.true, size_here c.before)

pub index-requires : goal.index-requires
index-requires c =
    let inside = c.self.inside in
    let within =
    word_within inside.units inside.tags.items inside.words.items inside.sizes.items
    c.self.invariant.kept c.self.invariant.sized c.args.start c.args.index (below_size c.before) in
    omega (
      arith,
      inside.words.ok.0,
      within,
      c.get-start.ensures.value,
      c.from.ensures,
    )

-- the word that is read is the one of that index
read_here : (c : After-index) → c.index.result.now
    ≡ get_or c.self.inside.words.items (c.args.start + c.args.index) 0
read_here c =
    let inside = c.self.inside in
    let within =
    word_within inside.units inside.tags.items inside.words.items inside.sizes.items
    c.self.invariant.kept c.self.invariant.sized c.args.start c.args.index
    (below_size c.before.before) in
    let there : c.get-start.result + c.from.result ≡ c.args.start + c.args.index =
    omega (arith, c.get-start.ensures.value, c.from.ensures) in
    c.index.ensures
    ∙ ap (λ (at : ℕ). get_or inside.words.items at c.index.result.now) there
    ∙ get_or_default_zero inside.words.items (c.args.start + c.args.index) c.index.result.now within

pub from_value-requires : goal.from_value-requires
from_value-requires c =
    let inside = c.self.inside in
    word_fits inside.units inside.tags.items inside.words.items inside.sizes.items
    c.self.invariant.kept c.self.invariant.sized c.args.start c.args.index
    (below_size c.before.before.before) c.index.result.now (read_here c.before)

pub returns-then-index-size_at-clause-value : goal.returns-then-index-size_at-clause-value
returns-then-index-size_at-clause-value c =
    let inside = c.self.inside in
    sym (word_is inside.units inside.tags.items inside.words.items inside.sizes.items
    c.self.invariant.kept c.self.invariant.sized c.args.start c.args.index
    (below_size c.before.before.before.before) c.from_value.result
    (c.from_value.ensures ∙ read_here c.before.before))
    ∙ ap (λ (s : Store). slice_get (block_at s.blocks c.args.start) c.args.index) c.self.view_is

pub returns-then-index-size_at-clause-near : goal.returns-then-index-size_at-clause-near
returns-then-index-size_at-clause-near c =
    let inside = c.self.inside in
    word_near inside.units inside.tags.items inside.words.items inside.sizes.items
    c.self.invariant.kept c.self.invariant.sized c.args.start c.args.index
    (below_size c.before.before.before.before)

pub returns-else-index-size_at-clause-value : goal.returns-else-index-size_at-clause-value
returns-else-index-size_at-clause-value c =
    let inside = c.self.inside in
    sym (no_word inside.units inside.tags.items inside.words.items inside.sizes.items
    c.self.invariant.kept c.self.invariant.sized c.args.start c.args.index
    (omega (arith, c.if-index-size_at.false, size_here c.before)))
    ∙ ap (λ (s : Store). slice_get (block_at s.blocks c.args.start) c.args.index) c.self.view_is
