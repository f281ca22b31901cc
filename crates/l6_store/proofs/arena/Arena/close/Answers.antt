use Rattle.std.proofs.Common.{ℕ, ◌<◌, List, length, sym, ap, ◌∙◌, subst, arith}
use Rattle.l6_store.specs.inner.ArenaLayout.{IsArena, ArenaLayout, blocks_of}
use Rattle.l6_store.specs.declared.place_tag.PlaceTag.{PlaceTag}
use Rattle.std.specs.FinMap as map
use Rattle.l6_store.specs.Blocks.{IsLive}
use Rattle.std.proofs.lemmas.Nat.{pow_pos}
use Rattle.l6_store.proofs.Arenas.{sound}
use Rattle.l6_store.proofs.Tagged.{BlockHere, block_here}
use Rattle.l6_store.proofs.Opened.{closed_laid, closed_blocks}
use Rattle.l6_store.specs.inner.Units.{IsKeptArena}
use Rattle.l6_store.proofs.KeptArenas.{closed_kept}
use Rattle.l6_store.proofs.arena.Arena.close.Goals as goal

-- a block begins at a place of the store
within : (units : ℕ) (words heads : List ℕ) (place_tags : List PlaceTag)
    (laid : IsArena units words place_tags heads) (place : ℕ)
    → IsLive (blocks_of place_tags words) place → place < length place_tags
within units words heads place_tags laid place live =
    let here = block_here units place_tags words laid.filled laid.are_blocks.is_aligned place live in
    omega (
      arith,
      here.within,
      (laid.are_blocks.is_aligned here.level place here.place_tag).within,
      laid.count,
      pow_pos here.level,
    )

pub close-requires : goal.close-requires
close-requires c =
    within c.self.inside.units c.self.inside.words c.self.inside.heads c.self.inside.place_tags
    c.self.invariant.laid c.args.place
    (subst (λ (l : ArenaLayout). IsLive l.blocks c.args.place) (sym c.self.view_is) c.requires)

live_then : (c : goal.After-close) →
    IsLive (blocks_of c.self.inside.place_tags c.self.inside.words) c.args.place
live_then c = subst (λ (l : ArenaLayout). IsLive l.blocks c.args.place) (sym c.self.view_is) c.requires

here_then : (c : goal.After-close)
    → BlockHere c.self.inside.units c.self.inside.place_tags c.self.inside.words c.args.place
here_then c =
    block_here c.self.inside.units c.self.inside.place_tags c.self.inside.words
    c.self.invariant.laid.filled c.self.invariant.laid.are_blocks.is_aligned c.args.place (live_then c)

laid : (c : goal.After-close) →
    IsArena c.self.inside.units c.self.inside.words c.close.new.self c.self.inside.heads
laid c =
    subst (λ (ms : List PlaceTag). IsArena c.self.inside.units c.self.inside.words ms
    c.self.inside.heads)
    (sym c.close.ensures) (closed_laid c.self.inside.units c.self.inside.words c.self.inside.heads
    c.self.inside.place_tags c.self.invariant.laid (here_then c).level c.args.place (here_then c).place_tag)

pub invariant_of-self : goal.invariant_of-self
invariant_of-self c =
    subst (λ (ms : List PlaceTag). IsKeptArena c.self.inside.units c.self.inside.words ms
    c.self.inside.heads c.self.inside.used) (sym c.close.ensures)
    (closed_kept c.self.inside.units c.self.inside.words c.self.inside.heads
    c.self.inside.place_tags c.self.inside.used c.self.invariant c.args.place
    (omega (arith, (here_then c).within, pow_pos (here_then c).level))
    (closed_laid c.self.inside.units c.self.inside.words c.self.inside.heads
    c.self.inside.place_tags c.self.invariant.laid (here_then c).level c.args.place
    (here_then c).place_tag))

pub returns-clause-blocks : goal.returns-clause-blocks
returns-clause-blocks c =
    ap (λ (ms : List PlaceTag). blocks_of ms c.self.inside.words) c.close.ensures
    ∙ closed_blocks c.self.inside.units c.self.inside.words c.self.inside.heads
    c.self.inside.place_tags c.self.invariant.laid (here_then c).level c.args.place (here_then c).place_tag
    ∙ ap (λ (l : ArenaLayout). map.remove l.blocks c.args.place) c.self.view_is

pub returns-clause-sound : goal.returns-clause-sound
returns-clause-sound c =
    sound c.self.inside.units c.self.inside.words c.self.inside.heads
    c.close.new.self (laid c)
