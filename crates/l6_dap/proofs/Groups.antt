-- Groups of variables as pairs of a name and a node.
use Rattle.std.proofs.Common.{ℕ, List, map}
use Rattle.l6_dap.specs.declared.nodes.Node.{Node}
use Rattle.l6_dap.specs.declared.scopes.Group.{Group}

abbrev pub known : List Group → List (List ℕ × Node)
known groups = map (λ group. (group.name.now, group.node)) groups
