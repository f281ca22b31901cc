use Rattle.std.proofs.Common.{◌-◌, sym, ◌∙◌, arith}
use Rattle.l6_places.proofs.Built.{indexed}
use Rattle.l6_places.proofs.tree.Tree.first_block.Goals as goal

pub returns-then-index-ne0 : goal.returns-then-index-ne0
returns-then-index-ne0 c =
    let is = indexed c.args.self.now.marks.items c.loop-place.place c.index.result.now
    (omega (arith, c.requires.within, c.loop-place-test.true)) c.index.ensures in
    record {
      level = c.index.result.now - 1;
      begins = sym is ∙ (omega (arith, c.if-index-ne0.true));
      low = c.loop-place.auto.place;
      high = c.loop-place-test.true;
      before = c.loop-place.invariant;
    }
