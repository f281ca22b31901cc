use Rattle.std.proofs.Common.{[], refl}
use Rattle.l6_check.specs.Missing.{missing_in}
use Rattle.l6_check.specs.inner.Names.{most_names}
use Rattle.l6_check.proofs.MissingSteps.{all_added, next_added, none_added}
use Rattle.l6_check.proofs.names.add_missing.Goals as goal

pub loop-statement-init : goal.loop-statement-init
loop-statement-init c = none_added c.args.given.now.entries [] 0 c.args.missing.now refl

pub loop-statement-preserved : goal.loop-statement-preserved
loop-statement-preserved c =
    next_added c.args.given.now.entries (missing_in c.args.given.now.entries) most_names c.args.statements.now c.loop-statement.statement-index
    c.statement-item.result c.args.missing.now c.loop-statement.missing c.add_of_statement.new.missing
    c.loop-statement-test.true c.statement-item.is c.loop-statement.invariant c.in_ok-add_of_statement.ensures

pub returns : goal.returns
returns c =
    all_added c.args.given.now.entries (missing_in c.args.given.now.entries) most_names c.args.statements.now c.loop-statement.statement-index
    c.args.missing.now c.loop-statement.missing c.loop-statement-test.false
    c.loop-statement.auto.statement-index-end c.loop-statement.invariant
