use Rattle.std.proofs.Common.{◌≡◌}
use Rattle.l6_places.specs.inner.View.{board_of}
use Rattle.l6_places.specs.inner.Settling.{Merges}
use Rattle.l6_places.proofs.tree.Tree.merge.Given as goal

abbrev pub invariant-loop-node : goal.invariant-loop-node
invariant-loop-node l =
    Merges (board_of l.fn.self) l.self.nodes.items l.level l.node
    × (board_of l.self ≡ board_of l.fn.self)

abbrev pub decreases-loop-node : goal.decreases-loop-node
decreases-loop-node l = l.node
