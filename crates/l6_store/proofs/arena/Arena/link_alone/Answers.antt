use Rattle.std.proofs.Common.{ℕ, true, ◌/◌, ◌<◌, List, length, get_or, set, sym, ap, ◌∙◌, subst, arith}
use Rattle.l6_store.specs.inner.ArenaLayout.{IsArena, ArenaLayout, blocks_of}
use Rattle.l6_store.specs.inner.Chains.{order_of, words_linked}
use Rattle.l6_store.specs.declared.place_tag.PlaceTag.{PlaceTag}
use Rattle.l6_store.specs.declared.place_tag.PlaceTag.TheVariants.{Listed}
use Rattle.l6_store.specs.Blocks.{LiesIn, end_of}
use Rattle.l6_store.specs.Buddy.{IsListed, in_front, listed}
use Rattle.l6_store.proofs.Heads.{head_alone}
use Rattle.l6_store.proofs.Arenas.{linked_laid, linked_blocks, linked_order, none_begins, sound}
use Rattle.l6_store.specs.inner.Units.{IsKeptArena}
use Rattle.l6_store.proofs.KeptArenas.{linked_kept, used_before, used_here}
use Rattle.l6_store.proofs.arena.Arena.link_alone.Goals as goal

pub link_alone-requires-clause-alone : goal.link_alone-requires-clause-alone
link_alone-requires-clause-alone c =
    head_alone c.self.inside.units c.self.inside.words c.self.inside.heads
    c.self.inside.place_tags c.self.invariant.laid c.args.level
    (ap (λ (l : ArenaLayout). listed l.order c.args.level) c.self.view_is ∙ c.requires.alone)

below : (c : goal.After-list) → c.args.place < end_of c.self.inside.units
below c = omega (arith, c.requires.within, ap (λ (l : ArenaLayout). l.units) c.self.view_is)

fresh : (c : goal.After-list) → (k : ℕ)
    → IsListed (order_of c.self.inside.words c.self.inside.heads) k c.args.place → ⊥
fresh c k is =
    c.requires.fresh k (subst (λ (l : ArenaLayout). IsListed l.order k c.args.place) c.self.view_is is)

beside : (c : goal.After-list)
    → LiesIn (blocks_of c.self.inside.place_tags c.self.inside.words) c.args.place → ⊥
beside c lies =
    c.requires.beside (subst (λ (l : ArenaLayout). LiesIn l.blocks c.args.place) c.self.view_is lies)

pub list-requires-clause-beside : goal.list-requires-clause-beside
list-requires-clause-beside c =
    none_begins c.self.inside.units c.self.inside.words c.self.inside.heads
    c.self.inside.place_tags c.self.invariant.laid c.args.level c.args.place c.requires.level
    c.requires.some
    (omega (arith, c.requires.within, ap (λ (l : ArenaLayout). l.units) c.self.view_is))
    (λ k is. c.requires.fresh k
    (subst (λ (l : ArenaLayout). IsListed l.order k c.args.place) c.self.view_is is))
    (λ lies. c.requires.beside
    (subst (λ (l : ArenaLayout). LiesIn l.blocks c.args.place) c.self.view_is lies))

unit_within : (c : goal.After-list) → c.args.place / 1024 < length c.self.inside.used
unit_within c =
    omega (arith, c.requires.within, c.self.told.1, c.self.invariant.laid.most, below c)

laid : (c : goal.After-list) →
    IsArena c.self.inside.units c.link_alone.new.words c.list.new.self c.link_alone.new.heads
laid c =
    subst (λ (ms : List PlaceTag). IsArena c.self.inside.units c.link_alone.new.words ms c.link_alone.new.heads)
    (sym c.list.ensures)
    (let place_tags : List PlaceTag = set c.self.inside.place_tags c.args.place (Listed c.args.level) in
    subst (λ (words : List ℕ). IsArena c.self.inside.units words place_tags c.link_alone.new.heads)
    (sym c.link_alone.ensures.words)
    (subst (λ (heads : List ℕ). IsArena c.self.inside.units
    (words_linked c.self.inside.words c.args.place (get_or c.self.inside.heads c.args.level 0))
    place_tags
    heads)
    (sym c.link_alone.ensures.heads)
    (linked_laid c.self.inside.units c.self.inside.words c.self.inside.heads
    c.self.inside.place_tags c.self.invariant.laid c.args.level c.args.place c.requires.level
    c.requires.some (below c) (fresh c) (beside c))))

pub invariant_of-self : goal.invariant_of-self
invariant_of-self c =
    let head : ℕ = get_or c.self.inside.heads c.args.level 0 in
    subst (λ (ms : List PlaceTag). IsKeptArena c.self.inside.units c.link_alone.new.words ms
    c.link_alone.new.heads (set c.self.inside.used (c.args.place / 1024) true)) (sym c.list.ensures)
    (subst (λ (words : List ℕ). IsKeptArena c.self.inside.units words
    (set c.self.inside.place_tags c.args.place (Listed c.args.level)) c.link_alone.new.heads
    (set c.self.inside.used (c.args.place / 1024) true))
    (sym c.link_alone.ensures.words)
    (linked_kept c.self.inside.units c.self.inside.words c.self.inside.heads
    c.self.inside.place_tags c.self.inside.used c.self.invariant c.args.level c.args.place c.link_alone.new.heads (set c.self.inside.used (c.args.place / 1024) true)
    (omega (arith, below c, c.self.invariant.laid.filled))
    (used_before c.self.inside.used (c.args.place / 1024) (unit_within c))
    (λ is. absurd (used_here c.self.inside.used (c.args.place / 1024) (unit_within c) is))
    (subst (λ (words : List ℕ). IsArena c.self.inside.units words
    (set c.self.inside.place_tags c.args.place (Listed c.args.level)) c.link_alone.new.heads)
    c.link_alone.ensures.words
    (subst (λ (ms : List PlaceTag). IsArena c.self.inside.units c.link_alone.new.words ms
    c.link_alone.new.heads) c.list.ensures (laid c)))))

pub returns-clause-blocks : goal.returns-clause-blocks
returns-clause-blocks c =
    ap (λ (ms : List PlaceTag). blocks_of ms c.link_alone.new.words) c.list.ensures
    ∙ ap (blocks_of (set c.self.inside.place_tags c.args.place (Listed c.args.level)))
    c.link_alone.ensures.words
    ∙ linked_blocks c.self.inside.units c.self.inside.words c.self.inside.heads
    c.self.inside.place_tags c.self.invariant.laid c.args.level c.args.place c.requires.level
    c.requires.some (below c) (fresh c) (beside c)
    ∙ ap (λ (l : ArenaLayout). l.blocks) c.self.view_is

pub returns-clause-order : goal.returns-clause-order
returns-clause-order c =
    ap (λ (words : List ℕ). order_of words c.link_alone.new.heads) c.link_alone.ensures.words
    ∙ ap (order_of (words_linked c.self.inside.words c.args.place
    (get_or c.self.inside.heads c.args.level 0))) c.link_alone.ensures.heads
    ∙ linked_order c.self.inside.units c.self.inside.words c.self.inside.heads
    c.self.inside.place_tags c.self.invariant.laid c.args.level c.args.place c.requires.level
    c.requires.some (below c) (fresh c) (beside c)
    ∙ ap (λ (l : ArenaLayout). in_front l.order c.args.level c.args.place) c.self.view_is

pub returns-clause-sound : goal.returns-clause-sound
returns-clause-sound c =
    sound c.self.inside.units c.link_alone.new.words c.link_alone.new.heads
    c.list.new.self (laid c)
