use Rattle.std.proofs.Common.{length}
use Rattle.l6.proofs.tracing.say_notes.Given as goal

abbrev pub decreases-loop-line : goal.decreases-loop-line
decreases-loop-line g l = length l.rest
