use Rattle.std.proofs.Common.{◌≡◌, length}
use Rattle.l6_group.specs.Character.{spelled}
use Rattle.l6_check.proofs.job.may_be_mark.Given as goal

-- the columns so far are blank
abbrev pub invariant-loop-first : goal.invariant-loop-first
invariant-loop-first l = spelled l.rest ≡ spelled l.columns

abbrev pub decreases-loop-first : goal.decreases-loop-first
decreases-loop-first l = length l.rest
