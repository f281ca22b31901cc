use Rattle.std.proofs.Common.{◌≡◌, ℕ, List, length, sym, ap, ◌∙◌, subst}
use Rattle.l6_store.specs.inner.ArenaLayout.{IsArena, ArenaLayout, blocks_of}
use Rattle.l6_store.specs.inner.Chains.{order_of}
use Rattle.std.specs.FinMap as map
use Rattle.l6_store.specs.Blocks.{IsLive, block_at}
use Rattle.l6_store.proofs.Arenas.{sound}
use Rattle.l6_store.proofs.Changed.{copied_laid, copied_blocks, copied_order, copy_apart, source_within, target_within}
use Rattle.l6_store.specs.inner.Units.{IsKeptArena}
use Rattle.l6_store.proofs.KeptArenas.{copied_kept}
use Rattle.l6_store.proofs.arena.Arena.copy.Goals as goal

live : (c : goal.After-size_of)
    → IsLive (blocks_of c.self.inside.place_tags c.self.inside.words) c.args.from
live c = subst (λ (l : ArenaLayout). IsLive l.blocks c.args.from) (sym c.self.view_is)
    c.requires.from_live

live_target : (c : goal.After-size_of)
    → IsLive (blocks_of c.self.inside.place_tags c.self.inside.words) c.args.to
live_target c = subst (λ (l : ArenaLayout). IsLive l.blocks c.args.to) (sym c.self.view_is)
    c.requires.to_live

same_size : (c : goal.After-size_of)
    → length (block_at (blocks_of c.self.inside.place_tags c.self.inside.words) c.args.from)
    ≡ length (block_at (blocks_of c.self.inside.place_tags c.self.inside.words) c.args.to)
same_size c =
    subst (λ (l : ArenaLayout). length (block_at l.blocks c.args.from)
    ≡ length (block_at l.blocks c.args.to)) (sym c.self.view_is) c.requires.size

size : (c : goal.After-size_of) → c.size_of.result
    ≡ length (block_at (blocks_of c.self.inside.place_tags c.self.inside.words) c.args.from)
size c =
    c.size_of.ensures
    ∙ c.block_level-level.ensures.size
    ∙ ap (λ (l : ArenaLayout). length (block_at l.blocks c.args.from)) (sym c.self.view_is)

pub copy-requires-clause-source : goal.copy-requires-clause-source
copy-requires-clause-source c =
    source_within c.self.inside.units c.self.inside.words c.self.inside.heads
    c.self.inside.place_tags c.self.invariant.laid c.args.from c.args.to c.size_of.result (live c)
    (live_target c) c.requires.different (same_size c) (size c)

pub copy-requires-clause-target : goal.copy-requires-clause-target
copy-requires-clause-target c =
    target_within c.self.inside.units c.self.inside.words c.self.inside.heads
    c.self.inside.place_tags c.self.invariant.laid c.args.from c.args.to c.size_of.result (live c)
    (live_target c) c.requires.different (same_size c) (size c)

pub copy-requires-clause-apart : goal.copy-requires-clause-apart
copy-requires-clause-apart c =
    copy_apart c.self.inside.units c.self.inside.words c.self.inside.heads
    c.self.inside.place_tags c.self.invariant.laid c.args.from c.args.to c.size_of.result (live c)
    (live_target c) c.requires.different (same_size c) (size c)

live_then : (c : goal.After-copy)
    → IsLive (blocks_of c.self.inside.place_tags c.self.inside.words) c.args.from
live_then c = subst (λ (l : ArenaLayout). IsLive l.blocks c.args.from) (sym c.self.view_is)
    c.requires.from_live

live_target_then : (c : goal.After-copy)
    → IsLive (blocks_of c.self.inside.place_tags c.self.inside.words) c.args.to
live_target_then c = subst (λ (l : ArenaLayout). IsLive l.blocks c.args.to) (sym c.self.view_is)
    c.requires.to_live

same_size_then : (c : goal.After-copy)
    → length (block_at (blocks_of c.self.inside.place_tags c.self.inside.words) c.args.from)
    ≡ length (block_at (blocks_of c.self.inside.place_tags c.self.inside.words) c.args.to)
same_size_then c =
    subst (λ (l : ArenaLayout). length (block_at l.blocks c.args.from)
    ≡ length (block_at l.blocks c.args.to)) (sym c.self.view_is) c.requires.size

size_then : (c : goal.After-copy) → c.size_of.result
    ≡ length (block_at (blocks_of c.self.inside.place_tags c.self.inside.words) c.args.from)
size_then c =
    c.size_of.ensures
    ∙ c.block_level-level.ensures.size
    ∙ ap (λ (l : ArenaLayout). length (block_at l.blocks c.args.from)) (sym c.self.view_is)

laid : (c : goal.After-copy) →
    IsArena c.self.inside.units c.copy.new.self c.self.inside.place_tags c.self.inside.heads
laid c =
    subst (λ (words : List ℕ). IsArena c.self.inside.units words c.self.inside.place_tags
    c.self.inside.heads) (sym c.copy.ensures)
    (copied_laid c.self.inside.units c.self.inside.words c.self.inside.heads
    c.self.inside.place_tags c.self.invariant.laid c.args.from c.args.to c.size_of.result (live_then c)
    (live_target_then c) c.requires.different (same_size_then c) (size_then c))

pub invariant_of-self : goal.invariant_of-self
invariant_of-self c =
    subst (λ (words : List ℕ). IsKeptArena c.self.inside.units words c.self.inside.place_tags
    c.self.inside.heads c.self.inside.used) (sym c.copy.ensures)
    (copied_kept c.self.inside.units c.self.inside.words c.self.inside.heads
    c.self.inside.place_tags c.self.inside.used c.self.invariant c.args.from c.args.to c.size_of.result (live_then c) (live_target_then c)
    c.requires.different (same_size_then c) (size_then c))

pub returns-clause-blocks : goal.returns-clause-blocks
returns-clause-blocks c =
    ap (blocks_of c.self.inside.place_tags) c.copy.ensures
    ∙ copied_blocks c.self.inside.units c.self.inside.words c.self.inside.heads
    c.self.inside.place_tags c.self.invariant.laid c.args.from c.args.to c.size_of.result (live_then c)
    (live_target_then c) c.requires.different (same_size_then c) (size_then c)
    ∙ ap (λ (l : ArenaLayout). map.insert l.blocks c.args.to (block_at l.blocks c.args.from))
    c.self.view_is

pub returns-clause-order : goal.returns-clause-order
returns-clause-order c =
    ap (λ (words : List ℕ). order_of words c.self.inside.heads) c.copy.ensures
    ∙ copied_order c.self.inside.units c.self.inside.words c.self.inside.heads
    c.self.inside.place_tags c.self.invariant.laid c.args.from c.args.to c.size_of.result (live_then c)
    (live_target_then c) c.requires.different (same_size_then c) (size_then c)
    ∙ ap (λ (l : ArenaLayout). l.order) c.self.view_is

pub returns-clause-sound : goal.returns-clause-sound
returns-clause-sound c =
    sound c.self.inside.units c.copy.new.self c.self.inside.heads c.self.inside.place_tags
    (laid c)
