use Rattle.std.proofs.Common.{length}
use Rattle.l6_place.proofs.occurrence.trimmed.Given as goal

abbrev pub decreases-loop-last : goal.decreases-loop-last
decreases-loop-last l = length l.rest
