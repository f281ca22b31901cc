use Rattle.std.proofs.Common.{◌≡◌, ◌-◌, ◌^◌, length, sym, ap, ◌∙◌, subst, arith}
use Rattle.l6_store.specs.BuddyStore.{BuddyStore}
use Rattle.std.specs.FinMap as map
use Rattle.l6_store.specs.Blocks.{IsLive, block_at}
use Rattle.l6_store.specs.Buddy.{buddy_rule, level_at, piece_freed, put_back}
use Rattle.l6_store.specs.Store.{after_free}
use Rattle.l6_store.specs.Tiles.{Tiles}
use Rattle.l6_store.proofs.Stores.{closed_detached, freed_filled, freed_moves, freed_order, sound_store, store_is}
use Rattle.l6_store.proofs.Steps.{moves_few_freed}
use Rattle.l6_store.proofs.buddy.Buddy.take_out.Goals as goal

live : (c : goal.After-join-arg-2-1) → IsLive c.self.inside.arena.blocks c.args.place
live c =
    subst (λ (b : BuddyStore). IsLive b.store.blocks c.args.place) (sym c.self.view_is) c.requires.live

level_is : (c : goal.After-join-arg-2-1) → 2 ^ c.args.level
    ≡ length (block_at c.self.inside.arena.blocks c.args.place)
level_is c =
    subst (λ (b : BuddyStore). 2 ^ c.args.level ≡ length (block_at b.store.blocks c.args.place))
    (sym c.self.view_is) c.requires.level

pub join-requires-clause-held : goal.join-requires-clause-held
join-requires-clause-held c =
    closed_detached c.self.inside.arena c.self.invariant.0 c.self.invariant.1 c.args.place
    c.args.level
    (live c) c.requires.small (level_is c) c.close.new.self
    c.close.ensures.units c.close.ensures.blocks c.close.ensures.order

live_then : (c : goal.After-join) → IsLive c.self.inside.arena.blocks c.args.place
live_then c =
    subst (λ (b : BuddyStore). IsLive b.store.blocks c.args.place) (sym c.self.view_is) c.requires.live

level_then : (c : goal.After-join) → 2 ^ c.args.level
    ≡ length (block_at c.self.inside.arena.blocks c.args.place)
level_then c =
    subst (λ (b : BuddyStore). 2 ^ c.args.level ≡ length (block_at b.store.blocks c.args.place))
    (sym c.self.view_is) c.requires.level

tiled : (c : goal.After-join) → Tiles c.join.new.arena.units
    c.join.new.arena.blocks c.join.new.arena.order
tiled c =
    freed_filled c.self.inside.arena c.self.invariant.0 c.self.invariant.1 c.args.place
    c.args.level
    (live_then c) c.requires.small (level_then c) c.close.new.self
    c.close.ensures.units c.close.ensures.blocks c.close.ensures.order
    c.join.new.arena c.join.ensures.units
    c.join.ensures.blocks c.join.ensures.order

pub invariant_of-self : goal.invariant_of-self
invariant_of-self c =
    let few = moves_few_freed c.close.new.self.order c.args.level c.args.place in
    (c.join.ensures.sound, tiled c, omega (arith, c.join.ensures.moves, few))

pub returns-clause-after : goal.returns-clause-after
returns-clause-after c =
    let was = c.self.inside.arena in
    store_is c.join.new.arena.units was.units c.join.new.arena.blocks
    (map.remove was.blocks c.args.place) c.join.new.arena.order
    (put_back (piece_freed was.order (level_at was.blocks c.args.place) c.args.place))
    c.join.new.moves
    ((piece_freed was.order (level_at was.blocks c.args.place) c.args.place).level
    - level_at was.blocks c.args.place)
    (c.join.ensures.units ∙ c.close.ensures.units)
    (c.join.ensures.blocks ∙ c.close.ensures.blocks)
    (freed_order c.self.inside.arena c.self.invariant.0 c.self.invariant.1 c.args.place
    c.args.level
    (live_then c) c.requires.small (level_then c) c.close.new.self
    c.close.ensures.units c.close.ensures.blocks c.close.ensures.order
    c.join.new.arena c.join.ensures.units
    c.join.ensures.blocks c.join.ensures.order)
    (freed_moves c.self.inside.arena c.self.invariant.0 c.self.invariant.1 c.args.place
    c.args.level
    (live_then c) c.requires.small (level_then c) c.close.new.self
    c.close.ensures.units c.close.ensures.blocks c.close.ensures.order
    c.join.new.arena c.join.ensures.units
    c.join.ensures.blocks c.join.ensures.order
    c.join.new.moves c.join.ensures.moves)
    ∙ ap (λ (b : BuddyStore). after_free buddy_rule b.store c.args.place) c.self.view_is

pub returns-clause-sound : goal.returns-clause-sound
returns-clause-sound c =
    sound_store c.join.new.arena c.join.new.moves
    c.join.ensures.sound (tiled c)
