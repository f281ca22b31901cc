use Rattle.std.proofs.Common.{length}
use Rattle.l6_place.proofs.testing.is_in_test.Given as goal

abbrev pub decreases-loop-line : goal.decreases-loop-line
decreases-loop-line l = length l.rest
