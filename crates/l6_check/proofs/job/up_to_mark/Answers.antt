use Rattle.std.proofs.Common.{◌∙◌, sym}
use Rattle.l6_check.proofs.Ending.{all_passed, line_passed, mark_met}
use Rattle.l6_check.proofs.job.up_to_mark.Goals as goal

pub returns-then-is_mark-clause-lines : goal.returns-then-is_mark-clause-lines
returns-then-is_mark-clause-lines c =
    mark_met c.args.deck.now c.loop-line.rest.now c.in-Some.line.now c.in-Some.following.now c.loop-line.count
    c.in-Some.ensures.parts (sym c.is_mark.ensures ∙ c.if-is_mark.true) c.loop-line.invariant

pub loop-line-preserved : goal.loop-line-preserved
loop-line-preserved c =
    line_passed c.args.deck.now c.loop-line.rest.now c.in-Some.line.now c.in-Some.following.now c.loop-line.count
    c.in-Some.ensures.parts (sym c.is_mark.ensures ∙ c.if-is_mark.false) c.loop-line.invariant

pub returns-clause-lines : goal.returns-clause-lines
returns-clause-lines c =
    all_passed c.args.deck.now c.loop-line.rest.now c.loop-line.count c.in_default.ensures.none
    c.loop-line.invariant
