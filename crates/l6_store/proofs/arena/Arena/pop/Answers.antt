use Rattle.std.proofs.Common.{◌≡◌, ℕ, List, get_or, set, sym, ap, ◌∙◌, subst, arith}
use Rattle.l6_store.specs.inner.ArenaLayout.{IsArena, ArenaLayout, blocks_of}
use Rattle.l6_store.specs.inner.Chains.{order_of, words_unlinked}
use Rattle.l6_store.specs.declared.place_tag.PlaceTag.{PlaceTag}
use Rattle.l6_store.specs.declared.place_tag.PlaceTag.TheVariants.{Inner}
use Rattle.l6_store.specs.Buddy.{IsListed, first_or, listed, taken_out}
use Rattle.l6_store.proofs.Arenas.{head_within, out_laid, out_blocks, out_order, sound}
use Rattle.l6_store.specs.inner.Units.{IsKeptArena}
use Rattle.l6_store.proofs.KeptArenas.{unlinked_kept}
use Rattle.l6_store.proofs.Arenas.{place_within}
use Rattle.l6_store.proofs.arena.Arena.pop.Goals as goal

pub take_out-requires-clause-place : goal.take_out-requires-clause-place
take_out-requires-clause-place c =
    omega (
      arith,
      c.pop-place.ensures.place,
      c.self.invariant.laid.count,
      c.self.invariant.laid.filled,
      head_within c.self.inside.units c.self.inside.words c.self.inside.heads
          c.self.inside.place_tags c.self.invariant.laid c.args.level,
    )

pub returns-clause-first : goal.returns-clause-first
returns-clause-first c =
    c.pop-place.ensures.place ∙ c.self.invariant.laid.are_lists.links.begun c.args.level
    ∙ ap (λ (l : ArenaLayout). first_or (listed l.order c.args.level) 0) c.self.view_is

first_is : (c : goal.After-take_out)
    → get_or c.self.inside.heads c.args.level 0
    ≡ first_or (listed (order_of c.self.inside.words c.self.inside.heads) c.args.level) 0
first_is c = c.self.invariant.laid.are_lists.links.begun c.args.level

there_is : (c : goal.After-take_out)
    → IsListed (order_of c.self.inside.words c.self.inside.heads) c.args.level c.pop-place.result
there_is c =
    subst (λ (p : ℕ). IsListed (order_of c.self.inside.words c.self.inside.heads) c.args.level p)
    (sym (c.pop-place.ensures.place ∙ first_is c))
    (subst (λ (l : ArenaLayout). IsListed l.order c.args.level
    (first_or (listed l.order c.args.level) 0))
    (sym c.self.view_is) c.requires.there)

laid : (c : goal.After-take_out) →
    IsArena c.self.inside.units c.pop-place.new.words c.take_out.new.self c.pop-place.new.heads
laid c =
    subst (λ (ms : List PlaceTag). IsArena c.self.inside.units c.pop-place.new.words ms
    c.pop-place.new.heads)
    (sym c.take_out.ensures)
    (let place_tags : List PlaceTag = set c.self.inside.place_tags c.pop-place.result Inner in
    subst (λ (words : List ℕ). IsArena c.self.inside.units words place_tags c.pop-place.new.heads)
    (sym c.pop-place.ensures.words)
    (subst (λ (heads : List ℕ). IsArena c.self.inside.units
    (words_unlinked c.self.inside.words c.pop-place.result)
    place_tags heads)
    (sym c.pop-place.ensures.heads)
    (out_laid c.self.inside.units c.self.inside.words c.self.inside.heads
    c.self.inside.place_tags c.self.invariant.laid c.args.level c.pop-place.result c.requires.level
    (there_is c))))

pub invariant_of-self : goal.invariant_of-self
invariant_of-self c =
    subst (λ (ms : List PlaceTag). IsKeptArena c.self.inside.units c.pop-place.new.words ms
    c.pop-place.new.heads c.self.inside.used) (sym c.take_out.ensures)
    (subst (λ (words : List ℕ). IsKeptArena c.self.inside.units words
    (set c.self.inside.place_tags c.pop-place.result Inner) c.pop-place.new.heads
    c.self.inside.used)
    (sym c.pop-place.ensures.words)
    (unlinked_kept c.self.inside.units c.self.inside.words c.self.inside.heads
    c.self.inside.place_tags c.self.inside.used c.self.invariant c.args.level c.pop-place.result c.pop-place.new.heads (there_is c)
    (place_within c.self.inside.units c.self.inside.words c.self.inside.heads
    c.self.inside.place_tags c.self.invariant.laid c.args.level c.pop-place.result c.requires.level
    (there_is c))
    (subst (λ (words : List ℕ). IsArena c.self.inside.units words
    (set c.self.inside.place_tags c.pop-place.result Inner) c.pop-place.new.heads)
    c.pop-place.ensures.words
    (subst (λ (ms : List PlaceTag). IsArena c.self.inside.units c.pop-place.new.words ms
    c.pop-place.new.heads) c.take_out.ensures (laid c)))))

pub returns-clause-blocks : goal.returns-clause-blocks
returns-clause-blocks c =
    ap (λ (ms : List PlaceTag). blocks_of ms c.pop-place.new.words) c.take_out.ensures
    ∙ ap (blocks_of (set c.self.inside.place_tags c.pop-place.result Inner)) c.pop-place.ensures.words
    ∙ out_blocks c.self.inside.units c.self.inside.words c.self.inside.heads
    c.self.inside.place_tags c.self.invariant.laid c.args.level c.pop-place.result c.requires.level
    (there_is c)
    ∙ ap (λ (l : ArenaLayout). l.blocks) c.self.view_is

pub returns-clause-order : goal.returns-clause-order
returns-clause-order c =
    ap (λ (words : List ℕ). order_of words c.pop-place.new.heads) c.pop-place.ensures.words
    ∙ ap (order_of (words_unlinked c.self.inside.words c.pop-place.result)) c.pop-place.ensures.heads
    ∙ out_order c.self.inside.units c.self.inside.words c.self.inside.heads
    c.self.inside.place_tags c.self.invariant.laid c.args.level c.pop-place.result c.requires.level
    (there_is c)
    ∙ ap (λ (l : ArenaLayout). taken_out l.order c.args.level c.pop-place.result) c.self.view_is

pub returns-clause-sound : goal.returns-clause-sound
returns-clause-sound c =
    sound c.self.inside.units c.pop-place.new.words c.pop-place.new.heads
    c.take_out.new.self (laid c)
