use Rattle.std.proofs.Common.{arith, sym, ◌∙◌, rules}
use Rattle.l6_check.specs.declared.ways.StatementTest.TheVariants.{Condition, Unnamed, Unreached, Trapping, Idle, Running}
use Rattle.l6_check.proofs.WaySteps.{statement_taken}
use Rattle.l6_check.proofs.ways.warnings_by.Goals as goal

pub loop-line-preserved-in_ok-add_if_passing-6 : goal.loop-line-preserved-in_ok-add_if_passing-6
loop-line-preserved-in_ok-add_if_passing-6 c =
    let far = c.loop-line.invariant in
    let ways = c.args.ways in
    let deck = c.args.deck.now in
    let number = c.loop-line.number in
    let card = c.loop-line.card in
    let rest = c.loop-line.rest.now in
    let split = c.in-Some.ensures.lines in
    let shorter = c.in-Some.ensures.shorter in
    let first = sym c.begins_statement.ensures ∙ c.if-begins_statement.true in
    let one = c.in_ok-add_if_passing.ensures in
    let two = c.in_ok-add_if_passing-2.ensures in
    let three = c.in_ok-add_if_passing-3.ensures in
    let four = c.in_ok-add_if_passing-4.ensures in
    let five = c.in_ok-add_if_passing-5.ensures in
    let six = c.in_ok-add_if_passing-6.ensures in
    record {
      conditions = statement_taken Condition ways _ _ number card _ rest _ deck split first one.said far.conditions;
      unnamed = statement_taken Unnamed ways _ _ number card _ rest _ deck split first two.said far.unnamed;
      unreached = statement_taken Unreached ways _ _ number card _ rest _ deck split first three.said far.unreached;
      trapping = statement_taken Trapping ways _ _ number card _ rest _ deck split first four.said far.trapping;
      idle = statement_taken Idle ways _ _ number card _ rest _ deck split first five.said far.idle;
      running = statement_taken Running ways _ _ number card _ rest _ deck split first six.said far.running;
      few = omega (arith, far.few, one.count);
      few_unnamed = omega (arith, far.few_unnamed, two.count);
      few_unreached = omega (arith, far.few_unreached, three.count);
      few_trapping = omega (arith, far.few_trapping, four.count);
      few_idle = omega (arith, far.few_idle, five.count);
      few_running = omega (arith, far.few_running, six.count);
      numbers = omega (arith, far.numbers, shorter);
      below = omega (arith, far.below);
    }

pub returns : goal.returns
returns c = record {
  conditions = search rules;
  unnamed = search rules;
  unreached = search rules;
  trapping = search rules;
  idle = search rules;
  running = search rules;
}
