use Rattle.std.proofs.Common.{◌≤◌, length}
use Rattle.l6_place.proofs.occurrence.without_blanks.Given as goal

-- the rest is no longer than all
abbrev pub invariant-loop-first : goal.invariant-loop-first
invariant-loop-first l = length l.rest ≤ length l.columns

abbrev pub decreases-loop-first : goal.decreases-loop-first
decreases-loop-first l = length l.rest
