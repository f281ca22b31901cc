use Rattle.std.proofs.Common.{◌≡◌, length, sym, subst}
use Rattle.l6_store.specs.BuddyStore.{BuddyStore}
use Rattle.std.specs.FinMap as map
use Rattle.l6_store.specs.Blocks.{Blocks, IsLive, block_at}
use Rattle.l6_store.specs.Tiles.{Tiles}
use Rattle.l6_store.proofs.Live.{live_words}
use Rattle.l6_store.proofs.Stores.{sound_store, tiles_along, written_tiles}
use Rattle.l6_store.proofs.buddy.BuddyPlaces.copy.Goals as goal

tiled : (c : goal.After-copy)
    → Tiles c.copy.new.self.units c.copy.new.self.blocks c.copy.new.self.order
tiled c =
    let blocks : Blocks = c.self.inside.arena.blocks in
    let live : IsLive blocks c.args.to
    = subst (λ (b : BuddyStore). IsLive b.store.blocks c.args.to) (sym c.self.view_is)
    c.requires.to_live in
    let size : length (block_at blocks c.args.from) ≡ length (block_at blocks c.args.to)
    = subst (λ (b : BuddyStore). length (block_at b.store.blocks c.args.from)
    ≡ length (block_at b.store.blocks c.args.to)) (sym c.self.view_is) c.requires.size in
    tiles_along c.copy.new.self.units c.self.inside.arena.units c.copy.new.self.blocks
    (map.insert blocks c.args.to (block_at blocks c.args.from)) c.copy.new.self.order
    c.self.inside.arena.order c.copy.ensures.units c.copy.ensures.blocks c.copy.ensures.order
    (written_tiles c.self.inside.arena.units blocks c.self.inside.arena.order c.args.to
    (block_at blocks c.args.to) (block_at blocks c.args.from) (live_words blocks c.args.to live)
    size c.self.invariant.1)

pub invariant_of-self : goal.invariant_of-self
invariant_of-self c = (c.copy.ensures.sound, tiled c, c.self.invariant.2)

pub returns-clause-sound : goal.returns-clause-sound
returns-clause-sound c =
    sound_store c.copy.new.self c.self.inside.moves c.copy.ensures.sound (tiled c)
