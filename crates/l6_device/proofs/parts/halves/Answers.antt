use Rattle.std.proofs.Common.{◌∙◌, ap, length, sym}
use Rattle.std.proofs.lemmas.Bool.{eqb-true}
use Rattle.l6_device.specs.JobParts.{reads_as}
use Rattle.l6_device.proofs.Separators.{before_separator, no_separator, none_kept, one_kept}
use Rattle.l6_device.proofs.parts.halves.Goals as goal

pub loop-rest-init : goal.loop-rest-init
loop-rest-init c = none_kept c.args.word.now c.args.text.now

pub loop-rest-preserved : goal.loop-rest-preserved
loop-rest-preserved c =
    one_kept c.args.word.now c.args.text.now c.loop-rest.rest.now c.line_and_rest.result.0.now
    c.line_and_rest.result.1.now c.loop-rest.invariant c.line_and_rest.ensures.line
    (ap (reads_as c.args.word.now) (sym c.without_return.ensures.value)
    ∙ sym c.reads_as.ensures ∙ c.if-reads_as.false)

pub returns-then-reads_as-clause-before : goal.returns-then-reads_as-clause-before
returns-then-reads_as-clause-before c =
    (before_separator c.args.word.now c.args.text.now c.loop-rest.rest.now c.line_and_rest.result.0.now
    c.line_and_rest.result.1.now c.loop-rest.invariant c.line_and_rest.ensures.line
    (ap (reads_as c.args.word.now) (sym c.without_return.ensures.value)
    ∙ sym c.reads_as.ensures ∙ c.if-reads_as.true)).0

pub returns-then-reads_as-clause-following : goal.returns-then-reads_as-clause-following
returns-then-reads_as-clause-following c =
    (before_separator c.args.word.now c.args.text.now c.loop-rest.rest.now c.line_and_rest.result.0.now
    c.line_and_rest.result.1.now c.loop-rest.invariant c.line_and_rest.ensures.line
    (ap (reads_as c.args.word.now) (sym c.without_return.ensures.value)
    ∙ sym c.reads_as.ensures ∙ c.if-reads_as.true)).1

pub returns-clause-before : goal.returns-clause-before
returns-clause-before c =
    (no_separator c.args.word.now c.args.text.now c.loop-rest.rest.now c.loop-rest.invariant
    (eqb-true (length c.loop-rest.rest.now) 0 (sym c.is_empty.ensures ∙ c.loop-rest-test.false))).0

pub returns-clause-following : goal.returns-clause-following
returns-clause-following c =
    (no_separator c.args.word.now c.args.text.now c.loop-rest.rest.now c.loop-rest.invariant
    (eqb-true (length c.loop-rest.rest.now) 0 (sym c.is_empty.ensures ∙ c.loop-rest-test.false))).1
