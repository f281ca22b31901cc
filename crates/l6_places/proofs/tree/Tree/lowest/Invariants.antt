use Rattle.l6_places.specs.inner.View.{board_of}
use Rattle.l6_places.specs.inner.Descent.{Descends}
use Rattle.l6_places.proofs.tree.Tree.lowest.Given as goal

abbrev pub invariant-loop-now : goal.invariant-loop-now
invariant-loop-now l = Descends (board_of l.self) l.self.nodes.items l.level l.now l.node

abbrev pub decreases-loop-now : goal.decreases-loop-now
decreases-loop-now l = l.now
