use Rattle.std.proofs.Common.{◌≡◌, length}
use Rattle.l6_lsp.specs.Edits as spec
use Rattle.l6_lsp.proofs.edits.are_before.Given as goal

-- the ranges that are left decide
abbrev pub invariant-loop-start : goal.invariant-loop-start
invariant-loop-start l = spec.are_before l.limit l.rest ≡ spec.are_before l.fn.limit l.ranges

abbrev pub decreases-loop-start : goal.decreases-loop-start
decreases-loop-start l = length l.rest
