use Rattle.std.proofs.Common.{length}
use Rattle.l6_check.proofs.Ending.{IsPassed}
use Rattle.l6_check.proofs.job.up_to_mark.Given as goal

-- the lines so far are no marks, and those that are left follow them
abbrev pub invariant-loop-line : goal.invariant-loop-line
invariant-loop-line l = IsPassed l.deck l.rest l.count

abbrev pub decreases-loop-line : goal.decreases-loop-line
decreases-loop-line l = length l.rest
