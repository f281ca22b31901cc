use Rattle.std.proofs.Common.{length}
use Rattle.l6_check.proofs.label_places.after_letters.Given as goal

abbrev pub decreases-loop-first : goal.decreases-loop-first
decreases-loop-first l = length l.rest
