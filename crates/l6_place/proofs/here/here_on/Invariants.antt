use Rattle.std.proofs.Common.{length}
use Rattle.l6_place.proofs.here.here_on.Given as goal

abbrev pub decreases-loop-nothing : goal.decreases-loop-nothing
decreases-loop-nothing l = length l.rest
