use Rattle.std.proofs.Common.{◌*◌, arith}
use Rattle.l6_store.proofs.UsedUnits.{taken_all}
use Rattle.l6_store.proofs.units.take_units.Goals as goal

pub returns : goal.returns
returns g c =
    taken_all c.args.entries.now c.args.others.now c.loop-unit.entries (c.loop-unit.unit * 1024)
    c.loop-unit.invariant (omega (arith, c.loop-unit-test.false))
