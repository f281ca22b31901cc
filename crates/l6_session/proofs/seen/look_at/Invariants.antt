use Rattle.std.proofs.Common.{◌≡◌, ◌+◌, ◌++◌, length}
use Rattle.l6_history.specs.Stop.{values_of}
use Rattle.l6_session.proofs.seen.look_at.Given as goal

-- the values so far, with those of what is left, are those of all
abbrev pub invariant-loop-one : goal.invariant-loop-one
invariant-loop-one g l = record {
  watched : l.values.items ++ values_of l.rest l.machine.configuration.state.memory
      ≡ values_of l.fn.watched l.machine.configuration.state.memory;
  room : length l.values.items + length l.rest ≡ length l.fn.watched;
}

abbrev pub decreases-loop-one : goal.decreases-loop-one
decreases-loop-one g l = length l.rest
