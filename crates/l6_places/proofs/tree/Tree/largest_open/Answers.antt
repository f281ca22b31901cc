use Rattle.std.proofs.Common.{arith}
use Rattle.l6_places.specs.inner.View.{board_of}
use Rattle.l6_places.proofs.Descent.{root_none}
use Rattle.l6_places.proofs.Nodes.{root}
use Rattle.l6_places.proofs.Values.{most}
use Rattle.l6_places.proofs.tree.Tree.largest_open.Goals as goal

pub returns-then-value-eq0 : goal.returns-then-value-eq0
returns-then-value-eq0 c =
    root_none (board_of c.args.self.now) c.args.self.now.nodes.items c.requires.told 0 (omega arith)
    (omega (arith, c.value-value.ensures, c.if-value-eq0.true))

pub find-requires-clause-level : goal.find-requires-clause-level
find-requires-clause-level c =
    omega (
      arith,
      c.value-value.ensures,
      most (board_of c.args.self.now) c.args.self.now.nodes.items c.requires.told c.args.self.now.top 1
          (root c.args.self.now.top),
    )

pub returns : goal.returns
returns c = (
  c.in_ok-place.ensures.lowest.0,
  λ level place more small o.
      root_none (board_of c.args.self.now) c.args.self.now.nodes.items c.requires.told level small
      (omega (arith, c.value-value.ensures, c.if-value-eq0.false, more)) place o,
)
