use Rattle.std.proofs.Common.{◌≡◌, ◌+◌, ◌/◌, ℕ, suc, slice_set, slice_index, ap, sym, ◌∙◌, subst, refl, arith}
use Rattle.l6_places.specs.inner.Settling.{Merges}
use Rattle.l6_places.specs.inner.View.{board_of}
use Rattle.l6_places.proofs.Settling.{merged}
use Rattle.l6_places.proofs.tree.Tree.merge.Goals as goal

pub loop-node-preserved : goal.loop-node-preserved
loop-node-preserved c =
    let tree = c.loop-node.self.nodes.items in
    let up : suc c.loop-node.level ≡ c.loop-node.level + 1 = omega arith in
    let whole = sym (c.value.ensures ∙ ap (slice_index tree) c.buddy.ensures) ∙ c.if-value-level.true
    ∙ sym up in (
      subst (λ (l : ℕ). Merges (board_of c.args.self.now) (slice_set tree c.loop-node.node l) l (c.loop-node.node / 2)) up
          (merged (board_of c.args.self.now) tree c.loop-node.level c.loop-node.node (c.loop-node.node / 2)
          c.loop-node.invariant.0 c.loop-node-test.true refl whole),
      c.loop-node.invariant.1,
    )
