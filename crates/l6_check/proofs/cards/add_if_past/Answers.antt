use Rattle.std.proofs.Common.{sym, ◌∙◌}
use Rattle.l6_check.specs.Warnings.{has_past, past_card}
use Rattle.l6_check.proofs.Keeping.{on_ok, one_next}
use Rattle.l6_check.proofs.cards.add_if_past.Goals as goal

pub returns-then-has_past-clause-said : goal.returns-then-has_past-clause-said
returns-then-has_past-clause-said c =
    on_ok c.add.result c.add.ensures (λ added cards says.
    one_next past_card c.args.card (has_past c.args.line.now) cards c.args.found.now
    c.add.new.self c.past_on.result (sym c.has_past.ensures ∙ c.if-has_past.true) c.past_on.ensures.card added says)
