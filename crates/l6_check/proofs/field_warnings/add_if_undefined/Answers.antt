use Rattle.std.proofs.Common.{ℕ, ◌++◌, List, sym, ◌∙◌, subst}
use Rattle.l6_check.specs.Fields.{field_said, is_undefined}
use Rattle.l6_check.specs.Kept.{Say}
use Rattle.l6_check.specs.inner.Marks.{is_marked}
use Rattle.l6_check.proofs.FieldSteps.{field_more}
use Rattle.l6_check.proofs.Keeping.{on_ok, said_next}
use Rattle.l6_check.proofs.field_warnings.add_if_undefined.Goals as goal

pub returns-clause-said : goal.returns-clause-said
returns-clause-said c =
    let undefined = is_undefined (is_marked c.args.fields.now.used) (is_marked c.args.fields.now.defined)
    c.args.number in
    on_ok c.add.result c.add.ensures (λ added things says.
    subst (λ (l : List ℕ). Say field_said (things ++ l) c.add.new.self)
    (sym (field_more undefined c.args.number
    (sym c.is_undefined.ensures ∙ c.if-not-is_undefined.false)))
    (said_next field_said things c.args.number c.args.found.now c.add.new.self c.undefined_at.result says
    c.undefined_at.ensures added))
