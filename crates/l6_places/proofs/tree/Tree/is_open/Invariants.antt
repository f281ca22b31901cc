use Rattle.std.proofs.Common.{◌-◌}
use Rattle.l6_places.specs.inner.View.{board_of}
use Rattle.l6_places.specs.inner.Climb.{Climbs}
use Rattle.l6_places.proofs.tree.Tree.is_open.Given as goal

abbrev pub invariant-loop-node : goal.invariant-loop-node
invariant-loop-node l = Climbs (board_of l.self) l.self.nodes.items l.level l.place l.now l.node

abbrev pub decreases-loop-node : goal.decreases-loop-node
decreases-loop-node l = l.self.top - l.now
