use Rattle.std.proofs.Common.{arith}
use Rattle.std.specs.FinMap as map
use Rattle.l6_store.specs.Buddy.{first_order}
use Rattle.l6_store.specs.Tiles.{Tiles}
use Rattle.l6_store.proofs.First.{new_tiled}
use Rattle.l6_store.proofs.Stores.{sound_store, tiles_along}
use Rattle.l6_store.proofs.buddy.BuddyPlaces.reset.Goals as goal

tiled : (c : goal.After-self-1)
    → Tiles c.reset.new.self.units c.reset.new.self.blocks c.reset.new.self.order
tiled c =
    tiles_along c.reset.new.self.units c.self.inside.arena.units c.reset.new.self.blocks map.empty
    c.reset.new.self.order (first_order c.self.inside.arena.units) c.reset.ensures.units
    c.reset.ensures.blocks c.reset.ensures.order (new_tiled c.self.inside.arena.units)

pub invariant_of-self : goal.invariant_of-self
invariant_of-self c = (c.reset.ensures.sound, tiled c, omega arith)

pub returns-clause-sound : goal.returns-clause-sound
returns-clause-sound c = sound_store c.reset.new.self 0 c.reset.ensures.sound (tiled c)
