use Rattle.std.proofs.Common.{ℕ, ◌%◌, ap, sym, ◌∙◌, refl, arith}
use Rattle.std.proofs.lemmas.Nat.{one_shl}
use Rattle.l6_places.specs.inner.View.{board_of}
use Rattle.l6_places.proofs.Nodes.{below_top}
use Rattle.l6_places.proofs.Climbing.{climbs_first, climbs_more, climbs_done, closed_first, closed_above}
use Rattle.l6_places.proofs.tree.Tree.is_open.Goals as goal

pub returns-then-value-level : goal.returns-then-value-level
returns-then-value-level c = (
  λ no. cc,
  λ o. absurd (closed_first (board_of c.args.self.now) c.args.self.now.nodes.items c.args.level
      c.args.place c.node_at-node.result c.requires.told c.requires.level
      (omega (arith, c.if-self-place.false, one_shl c.args.self.now.top 32 (omega (arith, c.requires.top))))
      c.node_at-node.ensures
      (λ e. c.if-value-level.true (omega (arith, c.value.ensures, e))) o),
)

pub loop-node-init : goal.loop-node-init
loop-node-init c =
    climbs_first (board_of c.args.self.now) c.args.self.now.nodes.items c.args.level
    c.args.place c.node_at-node.result c.requires.level
    (ap (λ (n : ℕ). c.args.place % n)
    (sym (one_shl c.args.level 32 (omega (arith, c.requires.level, c.requires.top))))
    ∙ c.if-place-level-ne0.false)
    (omega (arith, c.if-self-place.false, one_shl c.args.self.now.top 32 (omega (arith, c.requires.top))))
    c.node_at-node.ensures

pub returns-then-value-eq0 : goal.returns-then-value-eq0
returns-then-value-eq0 c = (
  λ no. cc,
  λ o. absurd (closed_above (board_of c.args.self.now) c.args.self.now.nodes.items c.args.level
      c.args.place c.loop-node.now c.loop-node.node c.requires.told c.loop-node.invariant
      c.loop-node-test.true (sym c.value-in-loop-node.ensures ∙ c.if-value-eq0.true) o),
)

pub loop-node-smaller : goal.loop-node-smaller
loop-node-smaller c =
    omega (
      arith,
      below_top c.args.self.now.top c.loop-node.now c.loop-node.node c.loop-node.invariant.is_node
          c.loop-node-test.true,
    )

pub loop-node-preserved : goal.loop-node-preserved
loop-node-preserved c =
    climbs_more (board_of c.args.self.now) c.args.self.now.nodes.items c.args.level
    c.args.place c.loop-node.now c.loop-node.node c.requires.told c.loop-node.invariant
    c.loop-node-test.true (λ e. c.if-value-eq0.false (c.value-in-loop-node.ensures ∙ e))

pub returns : goal.returns
returns c = (
  λ _. climbs_done (board_of c.args.self.now) c.args.self.now.nodes.items c.args.level
      c.args.place c.loop-node.now c.loop-node.node c.node_at-node.result c.requires.told
      c.requires.level
      (ap (λ (n : ℕ). c.args.place % n)
      (sym (one_shl c.args.level 32 (omega (arith, c.requires.level, c.requires.top))))
      ∙ c.if-place-level-ne0.false)
      (omega (arith, c.if-self-place.false, one_shl c.args.self.now.top 32 (omega (arith, c.requires.top))))
      c.node_at-node.ensures (omega (arith, c.value.ensures, c.if-value-level.false))
      c.loop-node.invariant c.loop-node-test.false,
  λ _. refl,
)
