use Rattle.std.proofs.Common.{arith, rules, ◌∙◌, sym}
use Rattle.l6_word.specs.Lines.{lines_of}
use Rattle.l6_check.proofs.StatementParts.{drop_next, count_next}
use Rattle.l6_check.proofs.parts.past_statement.Goals as goal

pub loop-line-preserved : goal.loop-line-preserved
loop-line-preserved c =
    let line = c.in-Some.line.now in
    let others = lines_of c.in-Some.following.now in
    let more = count_next line others c.in-Some.ensures.lines (search rules) in
    record {
      all = omega (arith, more, c.loop-line.invariant.all);
      left = sym (drop_next c.loop-line.further (lines_of c.args.text.now) line others
          (sym c.loop-line.invariant.left ∙ c.in-Some.ensures.lines));
      numbers = omega (arith, c.in-Some.ensures.shorter, c.loop-line.invariant.numbers);
    }
