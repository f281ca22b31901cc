use Rattle.std.proofs.Common.{◌≡◌, Ok}
use Rattle.l6_asm.specs.Resolution.{each_made, operation_of}
use Rattle.l6_asm.proofs.resolution.operations_of.Given as goal

-- the operations of the groups so far
abbrev pub invariant-loop-group : goal.invariant-loop-group
invariant-loop-group l = each_made (operation_of l.labels.entries) l.yielded ≡ Ok l.operations.items
