use Rattle.std.proofs.Common.{◌≡◌, ℕ, ◌+◌, ◌^◌, length, slice_range, sym, ap, ◌∙◌, subst, arith}
use Rattle.l6_store.specs.inner.ArenaLayout.{ArenaLayout, blocks_of}
use Rattle.l6_store.specs.Blocks.{IsLive, block_at}
use Rattle.l6_store.proofs.Tagged.{BlockHere, block_here}
use Rattle.l6_store.proofs.arena.Arena.block.Goals as goal

live : (c : goal.After-size_of) →
    IsLive (blocks_of c.self.inside.place_tags c.self.inside.words) c.args.place
live c = subst (λ (l : ArenaLayout). IsLive l.blocks c.args.place) (sym c.self.view_is) c.requires

here : (c : goal.After-size_of)
    → BlockHere c.self.inside.units c.self.inside.place_tags c.self.inside.words c.args.place
here c =
    block_here c.self.inside.units c.self.inside.place_tags c.self.inside.words
    c.self.invariant.laid.filled c.self.invariant.laid.are_blocks.is_aligned c.args.place (live c)

size : (c : goal.After-size_of) → c.size_of.result ≡ 2 ^ (here c).level
size c =
    c.size_of.ensures
    ∙ c.block_level-level.ensures.size
    ∙ ap (λ (l : ArenaLayout). length (block_at l.blocks c.args.place)) (sym c.self.view_is)
    ∙ (here c).size

pub words-requires : goal.words-requires
words-requires c = omega (arith, size c, (here c).within)

live_then : (c : goal.After-words) →
    IsLive (blocks_of c.self.inside.place_tags c.self.inside.words) c.args.place
live_then c = subst (λ (l : ArenaLayout). IsLive l.blocks c.args.place) (sym c.self.view_is) c.requires

here_then : (c : goal.After-words)
    → BlockHere c.self.inside.units c.self.inside.place_tags c.self.inside.words c.args.place
here_then c =
    block_here c.self.inside.units c.self.inside.place_tags c.self.inside.words
    c.self.invariant.laid.filled c.self.invariant.laid.are_blocks.is_aligned c.args.place (live_then c)

size_then : (c : goal.After-words) → c.size_of.result ≡ 2 ^ (here_then c).level
size_then c =
    c.size_of.ensures
    ∙ c.block_level-level.ensures.size
    ∙ ap (λ (l : ArenaLayout). length (block_at l.blocks c.args.place)) (sym c.self.view_is)
    ∙ (here_then c).size

pub returns-clause-value : goal.returns-clause-value
returns-clause-value c =
    c.words.ensures.value
    ∙ ap (λ (n : ℕ). slice_range c.self.inside.words c.args.place (c.args.place + n)) (size_then c)
    ∙ sym (here_then c).words_are
    ∙ ap (λ (l : ArenaLayout). block_at l.blocks c.args.place) c.self.view_is
