use Rattle.std.proofs.Common.{◌/◌, slice_index, ap, sym, ◌∙◌, subst, refl}
use Rattle.std.specs.Prelude.{max}
use Rattle.l6_places.specs.Board.{Board}
use Rattle.l6_places.specs.inner.Tree.{IsTold}
use Rattle.l6_places.specs.inner.View.{board_of}
use Rattle.l6_places.proofs.Settling.{settled, spread_up, written_root}
use Rattle.l6_places.proofs.tree.Tree.settle.Goals as goal

pub returns-then-value-clause-told : goal.returns-then-value-clause-told
returns-then-value-clause-told c =
    let b = board_of c.args.self.now in
    let tree = c.loop-node.self.nodes.items in
    let parent = c.loop-node.node / 2 in
    let up = spread_up b tree c.loop-node.node c.loop-node.value parent c.max-value.result c.loop-node.invariant.0
    c.loop-node-test.true refl
    (c.max-value.ensures
    ∙ ap (max c.loop-node.value) (c.value.ensures ∙ ap (slice_index tree) c.buddy.ensures)) in
    subst (λ (b : Board). IsTold b tree) (sym c.loop-node.invariant.1)
    (settled b tree up.level parent c.max-value.result up.settles
    (sym c.value-in-loop-node.ensures ∙ c.if-value.true))

pub loop-node-preserved : goal.loop-node-preserved
loop-node-preserved c =
    let b = board_of c.args.self.now in
    let tree = c.loop-node.self.nodes.items in
    let up = spread_up b tree c.loop-node.node c.loop-node.value (c.loop-node.node / 2) c.max-value.result
    c.loop-node.invariant.0 c.loop-node-test.true refl
    (c.max-value.ensures
    ∙ ap (max c.loop-node.value) (c.value.ensures ∙ ap (slice_index tree) c.buddy.ensures)) in
    (record { before = tree; spreads = up; same = refl }, c.loop-node.invariant.1)

pub returns-clause-told : goal.returns-clause-told
returns-clause-told c =
    let b = board_of c.args.self.now in
    let w = c.loop-node.invariant.0 in
    subst (λ (b : Board). IsTold b c.loop-node.self.nodes.items) (sym c.loop-node.invariant.1)
    (subst (IsTold b) (sym w.same)
    (written_root b w.before w.spreads.level c.loop-node.node c.loop-node.value w.spreads.settles
    c.loop-node-test.false))
