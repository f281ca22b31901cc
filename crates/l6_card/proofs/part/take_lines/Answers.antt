use Rattle.std.proofs.Common.{arith, rules, refl, ◌+◌, ◌-◌, ◌∙◌, ap, take}
use Rattle.std.proofs.lemmas.Result.{err_from_is_err_and}
use Rattle.l6_word.specs.Lines.{lines_of}
use Rattle.l6_card.specs.Objection.{objection_in}
use Rattle.l6_card.specs.inner.Pass.{after_pieces}
use Rattle.l6_card.specs.inner.Reader.{stage_of}
use Rattle.l6_card.proofs.Passes.{bytes_in, bytes_in_lines}
use Rattle.l6_card.proofs.PartPasses.{line_pieces, take_first, take_none, line_goes, line_stops, lines_over}
use Rattle.l6_card.proofs.part.take_lines.Goals as goal

pub loop-left-init : goal.loop-left-init
loop-left-init c = record {
  pass = refl;
  numbers = omega (arith, c.requires);
  offsets = omega (arith, c.requires, bytes_in_lines c.args.text.now);
}

pub returns-in-None : goal.returns-in-None
returns-in-None c =
    lines_over c.end.result (c.loop-left.card + 1) c.loop-left.offset (stage_of c.loop-left.reader)
    (stage_of c.end.new.self) _
    (ap (take c.loop-left.left) c.in-None.ensures.lines ∙ take_none c.loop-left.left)
    c.loop-left.invariant.pass c.end.ensures

pub returns-in_err-take_card-in-Some : goal.returns-in_err-take_card-in-Some
returns-in_err-take_card-in-Some c =
    let p = err_from_is_err_and c.from_residual.result c.from_residual.ensures.1 in
    let line = c.in-Some.line.now in
    let others = lines_of c.in-Some.following.now in
    let split = ap (take c.loop-left.left) c.in-Some.ensures.lines
    ∙ take_first c.loop-left.left line others c.loop-left-test.true in
    rw (p.1, p.2)
    (line_stops line (take (c.loop-left.left - 1) others) (c.loop-left.card + 1)
    c.loop-left.offset (stage_of c.loop-left.reader) _
    (objection_in c.in_err-take_card-in-Some.field-0.0) split c.loop-left.invariant.pass
    (rw c.columns_of.ensures.value at c.in_err-take_card-in-Some.ensures))

pub loop-left-preserved : goal.loop-left-preserved
loop-left-preserved c =
    let line = c.in-Some.line.now in
    let others = lines_of c.in-Some.following.now in
    let split = ap (take c.loop-left.left) c.in-Some.ensures.lines
    ∙ take_first c.loop-left.left line others c.loop-left-test.true in
    let fewer = ap bytes_in c.in-Some.ensures.lines in
    record {
      pass = ap (λ o. after_pieces (stage_of c.take_card.new.self)
          (line_pieces (c.loop-left.card + 1 + 1) o (take (c.loop-left.left - 1) others)))
          (omega (arith))
          ∙ line_goes line (take (c.loop-left.left - 1) others) (c.loop-left.card + 1)
          c.loop-left.offset (stage_of c.loop-left.reader) (stage_of c.take_card.new.self) _
          split c.loop-left.invariant.pass
          (rw c.columns_of.ensures.value at c.in_ok-take_card-in-Some.ensures);
      numbers = let shorter = c.in-Some.ensures.shorter in omega (arith, c.loop-left.invariant.numbers);
      offsets = omega (arith, fewer, c.loop-left.invariant.offsets);
    }

pub returns : goal.returns
returns c =
    lines_over c.end-2.result (c.loop-left.card + 1) c.loop-left.offset (stage_of c.loop-left.reader)
    (stage_of c.end-2.new.self) _
    (search rules)
    c.loop-left.invariant.pass c.end-2.ensures
