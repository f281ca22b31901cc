use Rattle.std.proofs.Common.{length}
use Rattle.l6_place.proofs.occurrence.occurrences_of.Given as goal

abbrev pub decreases-loop-line : goal.decreases-loop-line
decreases-loop-line l = length l.rest
