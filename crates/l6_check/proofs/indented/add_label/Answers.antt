use Rattle.std.proofs.Common.{rules, ◌≡◌, ◌∙◌, Some, None, refl}
use Rattle.l6_check.specs.Labels.{first_card}
use Rattle.l6_check.proofs.LabelSteps.{label_new}
use Rattle.l6_check.proofs.indented.add_label.Goals as goal

pub returns-in_ok-insert : goal.returns-in_ok-insert
returns-in_ok-insert c =
    let given = c.args.given.now.entries in
    let label = c.args.label in
    let is_new : first_card given label ≡ None = search rules in
    c.in_ok-insert.ensures.entries ∙ label_new given c.args.card (Some label) label refl is_new
