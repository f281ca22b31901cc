use Rattle.std.proofs.Common.{length}
use Rattle.l6_check.proofs.scan.without_last_blanks.Given as goal

abbrev pub decreases-loop-last : goal.decreases-loop-last
decreases-loop-last l = length l.rest
