use Rattle.std.proofs.Common.{◌≡◌, true, take}
use Rattle.std.specs.List.{list_all}
use Rattle.l6_prog.specs.Values.{is_operation}
use Rattle.l6_prog.proofs.statement.reveal_operations.Given as goal

-- each so far is an operation
abbrev pub invariant-loop-operation : goal.invariant-loop-operation
invariant-loop-operation l = list_all is_operation (take l.operation-index l.operations) ≡ true
