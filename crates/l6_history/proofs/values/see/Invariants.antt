use Rattle.std.proofs.Common.{◌≡◌, length, take}
use Rattle.l6_history.specs.Stop.{values_of}
use Rattle.l6_history.proofs.values.see.Given as goal

-- the values so far are those that what is watched reads as
abbrev pub invariant-loop-index : goal.invariant-loop-index
invariant-loop-index g l = record {
  many : length l.values ≡ length l.watched;
  seen : take l.index l.values
      ≡ take l.index (values_of l.watched l.machine.configuration.state.memory);
}
