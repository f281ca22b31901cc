use Rattle.std.proofs.Common.{◌≡◌, ◌++◌, length, reverse}
use Rattle.l6_dap.specs.Variables.{contents_of}
use Rattle.l6_dap.proofs.variables.contents.Given as goal

abbrev pub invariant-loop-word : goal.invariant-loop-word
invariant-loop-word l = l.list.items ++ contents_of (reverse l.rest) ≡ contents_of (reverse l.words)

abbrev pub decreases-loop-word : goal.decreases-loop-word
decreases-loop-word l = length l.rest
