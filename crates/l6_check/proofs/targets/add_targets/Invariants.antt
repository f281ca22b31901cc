use Rattle.std.proofs.Common.{◌≡◌, ◌++◌, take}
use Rattle.std.specs.List.{flat_map}
use Rattle.l6_prog.specs.Target.{targets_of_operation}
use Rattle.l6_check.proofs.targets.add_targets.Given as goal

-- the targets of the operations so far are added
abbrev pub invariant-loop-operation : goal.invariant-loop-operation
invariant-loop-operation l =
    l.targets.items
    ≡ l.fn.targets.items ++ flat_map targets_of_operation (take l.operation-index l.operation-items)
