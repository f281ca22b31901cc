use Rattle.std.proofs.Common.{◌≡◌, drop}
use Rattle.l6_history.specs.Stop.{some_differ, values_of}
use Rattle.l6_history.proofs.values.differ.Given as goal

-- whether some differ is said by the watched ones from here on
abbrev pub invariant-loop-index : goal.invariant-loop-index
invariant-loop-index g l = record {
  rest : some_differ (drop l.index l.values)
      (drop l.index (values_of l.watched l.machine.configuration.state.memory))
      ≡ some_differ l.values (values_of l.watched l.machine.configuration.state.memory);
}
