use Rattle.l6_places.specs.inner.Building.{Builds}
use Rattle.l6_places.proofs.building.build.Given as goal

abbrev pub invariant-loop-node : goal.invariant-loop-node
invariant-loop-node l = Builds l.top l.fn.nodes.items l.nodes.items l.level l.node

abbrev pub decreases-loop-node : goal.decreases-loop-node
decreases-loop-node l = l.node
