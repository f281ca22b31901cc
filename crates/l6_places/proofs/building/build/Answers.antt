use Rattle.std.proofs.Common.{◌≡◌, ◌≢◌, ◌+◌, ◌*◌, ◌^◌, slice_index, ℕ, ◌-◌, ap, sym, ◌∙◌, inl, inr, arith}
use Rattle.std.specs.Prelude.{◌⊎◌}
use Rattle.std.proofs.lemmas.Nat.{one_shl}
use Rattle.l6_places.specs.inner.Tree.{joined}
use Rattle.l6_places.proofs.Built.{builds_more, indexed}
use Rattle.l6_places.proofs.building.build.Goals as goal
use Rattle.l6_places.proofs.building.build.Goals.{then-node-top, else-node-top}

pub loop-node-preserved : goal.loop-node-preserved
loop-node-preserved c =
    let b = c.loop-node.invariant in
    let level = c.if-node-top.level in
    let node = c.loop-node.node in
    let size = one_shl (c.args.top - c.loop-node.level) 64 (omega (arith, c.requires.top)) in
    let rows : ((node ≡ 2 ^ (c.args.top - c.loop-node.level)) × (level ≡ c.loop-node.level + 1))
    ⊎ ((node ≢ 2 ^ (c.args.top - c.loop-node.level)) × (level ≡ c.loop-node.level))
    = elim c.if-node-top.branch
    as (λ _. ((node ≡ 2 ^ (c.args.top - c.loop-node.level)) × (level ≡ c.loop-node.level + 1))
    ⊎ ((node ≢ 2 ^ (c.args.top - c.loop-node.level)) × (level ≡ c.loop-node.level))) [
      | then-node-top w ↦ inl (w.if-node-top.true ∙ size, w.level-is)
      | else-node-top w ↦ inr ((λ e. w.if-node-top.false (e ∙ sym size)), w.level-is)
    ] in
    let lower = indexed c.loop-node.nodes.items (2 * (node - 1)) c.index-lower.result.now
    (omega (arith, b.count, c.requires.long, b.whole, c.loop-node-test.true)) c.index-lower.ensures in
    let upper = indexed c.loop-node.nodes.items (2 * (node - 1) + 1) c.index-upper.result.now
    (omega (arith, b.count, c.requires.long, b.whole, c.loop-node-test.true)) c.index-upper.ensures in
    builds_more c.args.top c.args.nodes.now.items c.loop-node.nodes.items c.loop-node.level level node
    c.join.result c.requires.long b c.loop-node-test.true rows
    (c.join.ensures
    ∙ ap (λ (v : ℕ). joined level v c.index-upper.result.now) lower
    ∙ ap (λ (v : ℕ). joined level (slice_index c.loop-node.nodes.items (2 * (node - 1))) v) upper)
