use Rattle.std.proofs.Common.{length}
use Rattle.l6_place.proofs.testing.tests_after.Given as goal

abbrev pub decreases-loop-rest : goal.decreases-loop-rest
decreases-loop-rest l = length l.rest
