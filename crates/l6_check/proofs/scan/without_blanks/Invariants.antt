use Rattle.std.proofs.Common.{◌≡◌, ◌+◌, length}
use Rattle.l6_check.specs.Warnings.{blanks_before}
use Rattle.l6_check.proofs.scan.without_blanks.Given as goal

-- what was passed is blank
abbrev pub invariant-loop-first : goal.invariant-loop-first
invariant-loop-first l =
    length l.rest + blanks_before l.columns ≡ length l.columns + blanks_before l.rest

abbrev pub decreases-loop-first : goal.decreases-loop-first
decreases-loop-first l = length l.rest
