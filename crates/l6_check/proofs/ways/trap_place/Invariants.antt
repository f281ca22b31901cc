use Rattle.std.proofs.Common.{length}
use Rattle.l6_check.proofs.ways.trap_place.Given as goal

abbrev pub decreases-loop-following : goal.decreases-loop-following
decreases-loop-following l = length l.rest
