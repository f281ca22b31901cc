use Rattle.std.proofs.Common.{◌*◌}
use Rattle.l6_store.proofs.UsedUnits.{AreTaken}
use Rattle.l6_store.proofs.units.take_units.Given as goal

-- the units so far are those of the others
abbrev pub invariant-loop-unit : goal.invariant-loop-unit
invariant-loop-unit g l = AreTaken l.fn.entries l.others l.entries (l.unit * 1024)
