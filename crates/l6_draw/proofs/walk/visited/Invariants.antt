use Rattle.l6_draw.proofs.Walking.{IsWalk}
use Rattle.l6_draw.proofs.Visiting.{left}
use Rattle.l6_draw.proofs.walk.visited.Given as goal

abbrev pub invariant-loop-place : goal.invariant-loop-place
invariant-loop-place g l = IsWalk l.machine.configuration.state.memory l.walk

abbrev pub decreases-loop-place : goal.decreases-loop-place
decreases-loop-place g l = left l.walk
