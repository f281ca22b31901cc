use Rattle.std.proofs.Common.{◌≡◌, ◌∷◌, [], ◌∙◌, ap, rules}
use Rattle.l6_check.specs.inner.Marks.{marked}
use Rattle.l6_check.proofs.Marking.{number_next}
use Rattle.l6_check.proofs.field_warnings.mark_names.Goals as goal

pub loop-field-preserved : goal.loop-field-preserved
loop-field-preserved c =
    let same : c.from.result ≡ c.field-item.result = search rules in
    number_next c.args.used.now c.loop-field.used c.mark.new.marks c.args.fields.now
    c.loop-field.field-index c.field-item.result c.loop-field-test.true c.field-item.is
    c.loop-field.invariant (c.mark.ensures ∙ ap (λ n. marked c.loop-field.used (n ∷ [])) same)
