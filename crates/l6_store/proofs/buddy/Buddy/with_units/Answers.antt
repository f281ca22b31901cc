use Rattle.std.proofs.Common.{arith}
use Rattle.std.specs.FinMap as map
use Rattle.l6_store.specs.Buddy.{first_order}
use Rattle.l6_store.specs.Tiles.{Tiles}
use Rattle.l6_store.proofs.First.{new_tiled}
use Rattle.l6_store.proofs.Stores.{sound_store, tiles_along}
use Rattle.l6_store.proofs.buddy.Buddy.with_units.Goals as goal

tiled : (c : goal.In_ok-new) → Tiles c.in_ok-new.field-0.units c.in_ok-new.field-0.blocks
    c.in_ok-new.field-0.order
tiled c =
    tiles_along c.in_ok-new.field-0.units c.args.units c.in_ok-new.field-0.blocks map.empty
    c.in_ok-new.field-0.order (first_order c.args.units) c.in_ok-new.ensures.units
    c.in_ok-new.ensures.blocks c.in_ok-new.ensures.order (new_tiled c.args.units)

pub invariant_of-result : goal.invariant_of-result
invariant_of-result c = (c.in_ok-new.ensures.sound, tiled c, omega arith)

pub returns-clause-sound : goal.returns-clause-sound
returns-clause-sound c = sound_store c.in_ok-new.field-0 0 c.in_ok-new.ensures.sound (tiled c)
