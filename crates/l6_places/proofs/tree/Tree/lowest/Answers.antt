use Rattle.std.proofs.Common.{◌≡◌, ℕ, ◌+◌, ◌-◌, ◌*◌, ◌%◌, ◌^◌, arith, subst, ◌∙◌}
use Rattle.l6_places.specs.inner.View.{board_of}
use Rattle.l6_places.specs.inner.Tree.{Node}
use Rattle.l6_places.proofs.Descent.{root_none, descends_first, step_lower, step_upper, start_shifted, start_small, done}
use Rattle.l6_places.proofs.Nodes.{node_of_start}
use Rattle.l6_places.proofs.tree.Tree.lowest.Goals as goal

pub returns-then-value-level-clause-lowest : goal.returns-then-value-level-clause-lowest
returns-then-value-level-clause-lowest c =
    root_none (board_of c.args.self.now) c.args.self.now.nodes.items c.requires.told c.args.level
    c.requires.level (omega (arith, c.if-value-level.true))

pub loop-now-init : goal.loop-now-init
loop-now-init c =
    descends_first (board_of c.args.self.now) c.args.self.now.nodes.items c.requires.told c.args.level
    c.requires.level (omega (arith, c.if-value-level.false))

pub loop-now-preserved-then-value-level-2 : goal.loop-now-preserved-then-value-level-2
loop-now-preserved-then-value-level-2 c =
    step_upper (board_of c.args.self.now) c.args.self.now.nodes.items c.requires.told c.args.level
    c.loop-now.now c.loop-now.node (c.loop-now.node * 2) (c.loop-now.node * 2 + 1) c.loop-now-test.true
    c.loop-now.invariant (omega arith) (omega arith) (omega (arith, c.if-value-level-2.true))

pub loop-now-preserved : goal.loop-now-preserved
loop-now-preserved c =
    step_lower (board_of c.args.self.now) c.args.self.now.nodes.items c.requires.told c.args.level
    c.loop-now.now c.loop-now.node (c.loop-now.node * 2) c.loop-now-test.true
    c.loop-now.invariant (omega arith) (omega (arith, c.if-value-level-2.false))

pub overflow_cast-result-2 : goal.overflow_cast-result-2
overflow_cast-result-2 c =
    let same : c.loop-now.now ≡ c.args.level
    = omega (arith, c.loop-now-test.false, c.loop-now.invariant.least) in
    let node : Node c.args.self.now.top c.args.level c.loop-now.node
    = subst (λ (l : ℕ). Node c.args.self.now.top l c.loop-now.node) same c.loop-now.invariant.is_node in
    omega (
      arith,
      start_shifted c.args.self.now.top c.args.level c.loop-now.node c.leaves.result c.requires.top node
          (c.leaves.ensures ∙ c.requires.told.marked),
      start_small c.args.self.now.top c.args.level c.loop-now.node c.requires.top node,
    )

pub returns-clause-lowest : goal.returns-clause-lowest
returns-clause-lowest c =
    let same : c.loop-now.now ≡ c.args.level
    = omega (arith, c.loop-now-test.false, c.loop-now.invariant.least) in
    let node : Node c.args.self.now.top c.args.level c.loop-now.node
    = subst (λ (l : ℕ). Node c.args.self.now.top l c.loop-now.node) same c.loop-now.invariant.is_node in
    done (board_of c.args.self.now) c.args.self.now.nodes.items c.requires.told c.args.level
    c.loop-now.now c.loop-now.node _ c.loop-now-test.false c.loop-now.invariant
    (start_shifted c.args.self.now.top c.args.level c.loop-now.node c.leaves.result c.requires.top node
    (c.leaves.ensures ∙ c.requires.told.marked))

pub returns-clause-node : goal.returns-clause-node
returns-clause-node c =
    let top = c.args.self.now.top in
    let same : c.loop-now.now ≡ c.args.level
    = omega (arith, c.loop-now-test.false, c.loop-now.invariant.least) in
    let node : Node top c.args.level c.loop-now.node
    = subst (λ (l : ℕ). Node top l c.loop-now.node) same c.loop-now.invariant.is_node in
    let place : ℕ = c.loop-now.node * 2 ^ c.args.level % 18446744073709551616 - c.leaves.result in
    node_of_start top c.args.level c.loop-now.node place node
    (start_shifted top c.args.level c.loop-now.node c.leaves.result c.requires.top node
    (c.leaves.ensures ∙ c.requires.told.marked))
