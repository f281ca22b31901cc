use Rattle.std.proofs.Common.{ℕ, ◌+◌, get_or, Some, ap, ◌∙◌, arith}
use Rattle.std.proofs.lemmas.Nat.{pow_pos}
use Rattle.std.specs.List.{slice_get}
use Rattle.l6_word.specs.Numerals.{largest_level}
use Rattle.l6_store.specs.Blocks.{block_at}
use Rattle.l6_store.specs.inner.ArenaLayout.{ArenaLayout}
use Rattle.l6_store.proofs.Multiples.{size_le}
use Rattle.l6_store.proofs.Tagged.{block_word}
use Rattle.l6_store.proofs.TagSizes.{past_size, sized_block}
use Rattle.l6_store.proofs.arena.Arena.word.Goals as goal

pub read-word-requires : goal.read-word-requires
read-word-requires c =
    let block = sized_block c.self.inside.place_tags c.args.start c.args.index
    (omega (arith, c.if-index-size.true, c.size.ensures)) in
    let is_aligned = c.self.invariant.laid.are_blocks.is_aligned block.0 c.args.start block.1 in
    omega (arith, is_aligned.within, c.self.invariant.laid.filled, block.2, c.from.ensures)

pub returns-then-index-size-clause-value : goal.returns-then-index-size-clause-value
returns-then-index-size-clause-value c =
    let block = sized_block c.self.inside.place_tags c.args.start c.args.index
    (omega (arith, c.if-index-size.true, c.size.ensures)) in
    let is_aligned = c.self.invariant.laid.are_blocks.is_aligned block.0 c.args.start block.1 in
    ap (λ (w : ℕ). Some w)
    (c.from_value.ensures ∙ c.read-word.ensures.value
    ∙ ap (λ (i : ℕ). get_or c.self.inside.words (c.args.start + i) 0) c.from.ensures)
    ∙ block_word c.self.inside.place_tags c.self.inside.words block.0 c.args.start
    c.args.index block.1 (omega (arith, is_aligned.within, c.self.invariant.laid.filled)) block.2
    ∙ ap (λ (l : ArenaLayout). slice_get (block_at l.blocks c.args.start) c.args.index) c.self.view_is

pub returns-then-index-size-clause-near : goal.returns-then-index-size-clause-near
returns-then-index-size-clause-near c =
    let block = sized_block c.self.inside.place_tags c.args.start c.args.index
    (omega (arith, c.if-index-size.true, c.size.ensures)) in
    let is_aligned = c.self.invariant.laid.are_blocks.is_aligned block.0 c.args.start block.1 in (
      omega (arith, is_aligned.within, c.self.invariant.laid.most, pow_pos block.0),
      omega (arith, block.2, size_le block.0 largest_level is_aligned.small),
    )

pub returns-else-index-size-clause-value : goal.returns-else-index-size-clause-value
returns-else-index-size-clause-value c =
    past_size c.self.inside.units c.self.inside.words c.self.inside.heads c.self.inside.place_tags
    c.self.invariant.laid c.args.start c.args.index
    (omega (arith, c.if-index-size.false, c.size.ensures))
    ∙ ap (λ (l : ArenaLayout). slice_get (block_at l.blocks c.args.start) c.args.index) c.self.view_is
