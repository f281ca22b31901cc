use Rattle.std.proofs.Common.{Some, ◌∙◌}
use Rattle.l6_history.specs.inner.Ring.{numbers_of}
use Rattle.l6_history.proofs.Rings.{found_same, greatest_next, greatest_past, greatest_stays}
use Rattle.l6_history.proofs.ring.Ring.nearest.Goals as goal
use Rattle.l6_history.proofs.ring.Ring.nearest.Goals.{then-greatest-kept+then-kept-number, else-greatest-kept, else-greatest-kept-via-then-greatest-kept+else-kept-number, else-greatest-kept-via-else-greatest-kept}

pub loop-index-preserved : goal.loop-index-preserved
loop-index-preserved g c =
    let numbers = numbers_of c.args.self.now.numbered_machines in
    let most = c.loop-index.invariant.most in
    elim c.if-greatest-kept.branch [
      | then-greatest-kept+then-kept-number w ↦ record {
        most = w.greatest-is
            ∙ greatest_next c.args.number numbers c.loop-index.index c.number_at-kept.result
            c.loop-index.greatest c.number_at-kept.ensures most w.if-greatest-kept.true
            w.if-kept-number.true;
        at = found_same numbers c.if-greatest-kept.nearest (Some c.loop-index.index)
            c.if-greatest-kept.greatest c.number_at-kept.result w.nearest-is w.greatest-is
            c.number_at-kept.ensures;
      }
      | else-greatest-kept w ↦ record {
        most = w.greatest-is ∙ (elim w.else-greatest-kept.branch [
          | else-greatest-kept-via-then-greatest-kept+else-kept-number w' ↦
              greatest_past c.args.number numbers c.loop-index.index c.number_at-kept.result
              c.loop-index.greatest c.number_at-kept.ensures most w'.if-kept-number.false
          | else-greatest-kept-via-else-greatest-kept w' ↦
              greatest_stays c.args.number numbers c.loop-index.index c.number_at-kept.result
              c.loop-index.greatest c.number_at-kept.ensures most w'.if-greatest-kept.false
        ]);
        at = found_same numbers c.if-greatest-kept.nearest c.loop-index.nearest
            c.if-greatest-kept.greatest c.loop-index.greatest w.nearest-is w.greatest-is
            c.loop-index.invariant.at;
      }
    ]
