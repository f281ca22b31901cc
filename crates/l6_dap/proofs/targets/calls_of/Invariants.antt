use Rattle.std.proofs.Common.{◌≡◌, ◌≤◌, ◌+◌, ◌++◌, length}
use Rattle.l6_dap.specs.Targets.{calls_of}
use Rattle.l6_dap.proofs.targets.calls_of.Given as goal

abbrev pub invariant-loop-operation : goal.invariant-loop-operation
invariant-loop-operation l = record {
  calls : l.list.items ++ calls_of l.action l.rest ≡ calls_of l.initial.action l.operations;
  within : l.action + length l.rest ≡ l.initial.action + length l.operations;
}

abbrev pub decreases-loop-operation : goal.decreases-loop-operation
decreases-loop-operation l = length l.rest
