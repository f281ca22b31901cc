use Rattle.std.proofs.Common.{◌≡◌, take}
use Rattle.l6_dap.specs.Variables.{blocks_at}
use Rattle.l6_dap.proofs.variables.blocks_at.Given as goal

abbrev pub invariant-loop-place : goal.invariant-loop-place
invariant-loop-place l = l.list.items ≡ blocks_at (take l.place-index l.places)
