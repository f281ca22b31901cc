use Rattle.std.proofs.Common.{◌≡◌, None, Some, sym, ap, ◌∙◌}
use Rattle.std.specs.Str.{bytes_eq}
use Rattle.indexmap.specs.IndexMap.{insert_entry}
use Rattle.l6_asm.specs.Labels.{number_of, with_label}
use Rattle.l6_asm.proofs.Labels.{added, refused}
use Rattle.l6_asm.proofs.label.add_label.Goals as goal

pub returns-in-Ok-None : goal.returns-in-Ok-None
returns-in-Ok-None c =
    let labels = c.args.labels.now.entries in
    let given = c.in-Some.given in
    let same = c.in_ok-clone-in-Some.ensures.cases in
    let none : number_of labels c.in_ok-clone-in-Some.field-0 ≡ None =
    sym (sym c.in-Ok-None.field-0-is ∙ c.in-Ok-None.ensures.old) in
    ap (with_label labels c.args.number) c.in-Some.is
    ∙ added labels c.insert.new.self.entries c.args.number given
    (ap (number_of labels) (sym same) ∙ none)
    (c.in-Ok-None.ensures.entries ∙ ap (λ l. insert_entry bytes_eq labels l c.args.number) same)

pub returns-in-Ok-Some : goal.returns-in-Ok-Some
returns-in-Ok-Some c =
    let labels = c.args.labels.now.entries in
    let given = c.in-Some.given in
    let same = c.in_ok-clone-in-Some.ensures.cases in
    let found : number_of labels c.in_ok-clone-in-Some.field-0 ≡ Some c.in-Ok-Some.field-0-0 =
    sym (sym c.in-Ok-Some.field-0-is ∙ c.in-Ok-Some.ensures.old) in
    ap (with_label labels c.args.number) c.in-Some.is
    ∙ refused labels c.args.number c.in-Ok-Some.field-0-0 given (ap (number_of labels) (sym same)
    ∙ found)
