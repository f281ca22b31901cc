use Rattle.std.proofs.Common.{◌∙◌, Bool, cond, None, take, ap, sym}
use Rattle.l6_group.specs.Label.{label_of}
use Rattle.l6_check.proofs.Indenting.{least_taken}
use Rattle.l6_check.proofs.indented.label_in_front.Goals as goal

pub returns : goal.returns
returns c =
    let columns = c.args.columns.now in
    let count = c.args.count in
    let begins = sym c.begin_blank.ensures ∙ c.if-not-begin_blank.false in
    c.label_of.ensures
    ∙ ap label_of (least_taken count c.min.result columns c.min.ensures)
    ∙ sym (ap (λ (blank : Bool). cond blank (label_of (take count columns)) None) begins)
