use Rattle.std.proofs.Common.{length}
use Rattle.l6_place.proofs.occurrence.push_card.Given as goal

abbrev pub decreases-loop-inside : goal.decreases-loop-inside
decreases-loop-inside l = length l.rest
