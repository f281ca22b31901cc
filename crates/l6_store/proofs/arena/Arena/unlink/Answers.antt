use Rattle.std.proofs.Common.{ℕ, List, set, sym, ap, ◌∙◌, subst}
use Rattle.l6_store.specs.inner.ArenaLayout.{IsArena, ArenaLayout, blocks_of}
use Rattle.l6_store.specs.inner.Chains.{order_of, words_unlinked}
use Rattle.l6_store.specs.declared.place_tag.PlaceTag.{PlaceTag}
use Rattle.l6_store.specs.declared.place_tag.PlaceTag.TheVariants.{Inner}
use Rattle.l6_store.specs.Buddy.{IsListed, taken_out}
use Rattle.l6_store.proofs.Arenas.{around_is, out_laid, out_blocks, out_order, place_within, sound}
use Rattle.l6_store.specs.inner.Units.{IsKeptArena}
use Rattle.l6_store.proofs.KeptArenas.{unlinked_kept}
use Rattle.l6_store.proofs.arena.Arena.unlink.Goals as goal

pub unlink-requires-clause-place : goal.unlink-requires-clause-place
unlink-requires-clause-place c =
    place_within c.self.inside.units c.self.inside.words c.self.inside.heads
    c.self.inside.place_tags c.self.invariant.laid c.args.level c.args.place c.requires.level
    (subst (λ (l : ArenaLayout). IsListed l.order c.args.level c.args.place) (sym c.self.view_is)
    c.requires.there)

pub unlink-requires-clause-before : goal.unlink-requires-clause-before
unlink-requires-clause-before c =
    (around_is c.self.inside.units c.self.inside.words c.self.inside.heads
    c.self.inside.place_tags c.self.invariant.laid c.args.level c.args.place c.requires.level
    (subst (λ (l : ArenaLayout). IsListed l.order c.args.level c.args.place) (sym c.self.view_is)
    c.requires.there)).0

pub unlink-requires-clause-after : goal.unlink-requires-clause-after
unlink-requires-clause-after c =
    (around_is c.self.inside.units c.self.inside.words c.self.inside.heads
    c.self.inside.place_tags c.self.invariant.laid c.args.level c.args.place c.requires.level
    (subst (λ (l : ArenaLayout). IsListed l.order c.args.level c.args.place) (sym c.self.view_is)
    c.requires.there)).1

there_is : (c : goal.After-take_out)
    → IsListed (order_of c.self.inside.words c.self.inside.heads) c.args.level c.args.place
there_is c =
    subst (λ (l : ArenaLayout). IsListed l.order c.args.level c.args.place) (sym c.self.view_is)
    c.requires.there

laid : (c : goal.After-take_out) →
    IsArena c.self.inside.units c.unlink.new.words c.take_out.new.self c.unlink.new.heads
laid c =
    subst (λ (ms : List PlaceTag). IsArena c.self.inside.units c.unlink.new.words ms c.unlink.new.heads)
    (sym c.take_out.ensures)
    (let place_tags : List PlaceTag = set c.self.inside.place_tags c.args.place Inner in
    subst (λ (words : List ℕ). IsArena c.self.inside.units words place_tags c.unlink.new.heads)
    (sym c.unlink.ensures.words)
    (subst (λ (heads : List ℕ). IsArena c.self.inside.units
    (words_unlinked c.self.inside.words c.args.place)
    place_tags heads)
    (sym c.unlink.ensures.heads)
    (out_laid c.self.inside.units c.self.inside.words c.self.inside.heads
    c.self.inside.place_tags c.self.invariant.laid c.args.level c.args.place c.requires.level (there_is c))))

pub invariant_of-self : goal.invariant_of-self
invariant_of-self c =
    subst (λ (ms : List PlaceTag). IsKeptArena c.self.inside.units c.unlink.new.words ms
    c.unlink.new.heads c.self.inside.used) (sym c.take_out.ensures)
    (subst (λ (words : List ℕ). IsKeptArena c.self.inside.units words
    (set c.self.inside.place_tags c.args.place Inner) c.unlink.new.heads c.self.inside.used)
    (sym c.unlink.ensures.words)
    (unlinked_kept c.self.inside.units c.self.inside.words c.self.inside.heads
    c.self.inside.place_tags c.self.inside.used c.self.invariant c.args.level c.args.place c.unlink.new.heads (there_is c)
    (place_within c.self.inside.units c.self.inside.words c.self.inside.heads
    c.self.inside.place_tags c.self.invariant.laid c.args.level c.args.place c.requires.level
    (there_is c))
    (subst (λ (words : List ℕ). IsArena c.self.inside.units words
    (set c.self.inside.place_tags c.args.place Inner) c.unlink.new.heads)
    c.unlink.ensures.words
    (subst (λ (ms : List PlaceTag). IsArena c.self.inside.units c.unlink.new.words ms
    c.unlink.new.heads) c.take_out.ensures (laid c)))))

pub returns-clause-blocks : goal.returns-clause-blocks
returns-clause-blocks c =
    ap (λ (ms : List PlaceTag). blocks_of ms c.unlink.new.words) c.take_out.ensures
    ∙ ap (blocks_of (set c.self.inside.place_tags c.args.place Inner)) c.unlink.ensures.words
    ∙ out_blocks c.self.inside.units c.self.inside.words c.self.inside.heads
    c.self.inside.place_tags c.self.invariant.laid c.args.level c.args.place c.requires.level (there_is c)
    ∙ ap (λ (l : ArenaLayout). l.blocks) c.self.view_is

pub returns-clause-order : goal.returns-clause-order
returns-clause-order c =
    ap (λ (words : List ℕ). order_of words c.unlink.new.heads) c.unlink.ensures.words
    ∙ ap (order_of (words_unlinked c.self.inside.words c.args.place)) c.unlink.ensures.heads
    ∙ out_order c.self.inside.units c.self.inside.words c.self.inside.heads
    c.self.inside.place_tags c.self.invariant.laid c.args.level c.args.place c.requires.level (there_is c)
    ∙ ap (λ (l : ArenaLayout). taken_out l.order c.args.level c.args.place) c.self.view_is

pub returns-clause-sound : goal.returns-clause-sound
returns-clause-sound c =
    sound c.self.inside.units c.unlink.new.words c.unlink.new.heads
    c.take_out.new.self (laid c)
