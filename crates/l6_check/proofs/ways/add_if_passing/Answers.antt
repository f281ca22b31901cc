use Rattle.std.proofs.Common.{sym, ◌∙◌}
use Rattle.l6_check.specs.inner.StatementTests.{passed_card, passes_at}
use Rattle.l6_check.proofs.Keeping.{on_ok, one_next}
use Rattle.l6_check.proofs.ways.add_if_passing.Goals as goal

pub returns-then-passes-clause-said : goal.returns-then-passes-clause-said
returns-then-passes-clause-said c =
    on_ok c.add.result c.add.ensures (λ added cards says.
    one_next (passed_card c.args.test) c.args.card.card
    (passes_at c.args.test c.args.ways c.args.card.number c.args.card.line.now) cards c.args.found.now
    c.add.new.self c.warning_on.result (sym c.passes.ensures ∙ c.if-passes.true) c.warning_on.ensures added says)
