use Rattle.std.proofs.Common.{arith, ℕ, ◌-◌, ◌∙◌, List, ap}
use Rattle.l6_word.specs.Lines.{lines_of}
use Rattle.l6_check.specs.Indented.{label_in_front}
use Rattle.l6_check.proofs.Indenting.{label_here, label_later}
use Rattle.l6_check.proofs.indented.first_word.Goals as goal

pub loop-left-preserved : goal.loop-left-preserved
loop-left-preserved c = record {
  same = label_later c.args.objection c.loop-left.card c.loop-left.left (c.loop-left.left - 1)
      c.in_ok-line.line.now c.loop-left.rest.now (lines_of c.in_ok-line.following.now) _
      c.if-card-objection.false (omega (arith, c.loop-left-test.true)) c.in_ok-line.ensures.lines
      c.loop-left.invariant.same;
  numbers = omega (arith, c.in_ok-line.ensures.shorter, c.loop-left.invariant.numbers);
}

pub returns-then-card-objection : goal.returns-then-card-objection
returns-then-card-objection c =
    c.label_in_front.ensures
    ∙ ap (λ (columns : List ℕ). label_in_front columns c.args.objection.from) c.columns_of.ensures.value
    ∙ label_here c.args.objection c.loop-left.card c.loop-left.left (c.loop-left.left - 1)
    c.in_ok-line.line.now c.loop-left.rest.now (lines_of c.in_ok-line.following.now) _
    c.if-card-objection.true (omega (arith, c.loop-left-test.true)) c.in_ok-line.ensures.lines
    c.loop-left.invariant.same
