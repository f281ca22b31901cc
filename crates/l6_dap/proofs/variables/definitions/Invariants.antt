use Rattle.std.proofs.Common.{◌≡◌, ◌++◌, length, reverse}
use Rattle.l6_dap.specs.Variables.{definitions_of}
use Rattle.l6_dap.proofs.variables.definitions.Given as goal

abbrev pub invariant-loop-window : goal.invariant-loop-window
invariant-loop-window l = l.list.items ++ definitions_of (reverse l.rest) ≡ definitions_of (reverse l.windows)

abbrev pub decreases-loop-window : goal.decreases-loop-window
decreases-loop-window l = length l.rest
