use Rattle.std.proofs.Common.{◌≡◌, length}
use Rattle.l6_dap.specs.Paths.{file_name, name_after}
use Rattle.l6_dap.proofs.paths.file_name.Given as goal

abbrev pub invariant-loop-first : goal.invariant-loop-first
invariant-loop-first l = name_after l.name l.rest ≡ file_name l.path

abbrev pub decreases-loop-first : goal.decreases-loop-first
decreases-loop-first l = length l.rest
