use Rattle.std.proofs.Common.{rules, ◌≡◌, ◌∙◌, Some, None}
use Rattle.l6_check.specs.Labels as spec
use Rattle.l6_check.proofs.LabelSteps.{twice_more, label_new}
use Rattle.l6_check.specs.OnCard.{IsOnItsCard}
use Rattle.l6_check.proofs.Keeping.{on_ok, added_all}
use Rattle.l6_check.proofs.labels.take_line.Goals as goal

pub returns-in-Some-copied-clause-said : goal.returns-in-Some-copied-clause-said
returns-in-Some-copied-clause-said c =
    let given = c.args.given.now.entries in
    let label = c.in-Some.label in
    let is_label : spec.label_on_line c.args.line.now ≡ Some label = search rules in
    let is_first : spec.first_card given label ≡ Some c.in-Some-copied.first = search rules in
    on_ok c.add.result c.add.ensures (λ added things says.
    twice_more given c.args.card (spec.label_on_line c.args.line.now) label c.in-Some-copied.first
    things c.args.twice.now c.add.new.self c.twice_on.result is_label is_first c.twice_on.ensures.said added
    says)

pub returns-in-Some-copied-clause-places : goal.returns-in-Some-copied-clause-places
returns-in-Some-copied-clause-places c =
    on_ok c.add.result c.add.ensures (λ added each.
    added_all IsOnItsCard c.args.twice.now c.add.new.self c.twice_on.result added
    c.twice_on.ensures.place each)

pub returns-in_ok-insert-in-None-clause-given : goal.returns-in_ok-insert-in-None-clause-given
returns-in_ok-insert-in-None-clause-given c =
    let given = c.args.given.now.entries in
    let label = c.in-Some.label in
    let is_label : spec.label_on_line c.args.line.now ≡ Some label = search rules in
    let is_new : spec.first_card given label ≡ None = search rules in
    c.in_ok-insert-in-None.ensures.entries
    ∙ label_new given c.args.card (spec.label_on_line c.args.line.now) label is_label is_new
