use Rattle.std.proofs.Common.{sym, ◌∙◌}
use Rattle.l6_check.specs.OnCard.{IsOnItsCard}
use Rattle.l6_check.specs.Explains.{Explains}
use Rattle.l6_check.proofs.Keeping.{on_ok, added_all}
use Rattle.l6_check.proofs.Explaining.{matched_one, matched_skipped}
use Rattle.l6_check.proofs.reading.add_error.Goals as goal

pub returns-then-is_full-clause-said : goal.returns-then-is_full-clause-said
returns-then-is_full-clause-said c objections are =
    matched_skipped Explains objections c.args.objection c.args.found.now c.skip.new.self
    (sym c.is_full.ensures ∙ c.if-is_full.true) c.skip.ensures are

pub returns-clause-said : goal.returns-clause-said
returns-clause-said c =
    on_ok c.add.result c.add.ensures (λ added objections are.
    matched_one Explains objections c.args.objection c.args.found.now c.add.new.self
    c.reading_error.result are c.reading_error.ensures.explains added)

pub returns-clause-places : goal.returns-clause-places
returns-clause-places c =
    on_ok c.add.result c.add.ensures (λ added each.
    added_all IsOnItsCard c.args.found.now c.add.new.self c.reading_error.result added
    c.reading_error.ensures.place each)
