use Rattle.std.proofs.Common.{length}
use Rattle.l6_frame.proofs.Heads.{IsRead}
use Rattle.l6_frame.proofs.frame.next_frame.Given as goal

-- what is left follows lines of a head
abbrev pub invariant-loop-line : goal.invariant-loop-line
invariant-loop-line l = IsRead l.bytes l.rest l.length

abbrev pub decreases-loop-line : goal.decreases-loop-line
decreases-loop-line l = length l.rest
