use Rattle.std.proofs.Common.{[], ◌∷◌, ◌++◌, ap, ◌∙◌}
use Rattle.std.specs.Prelude.{codes, decimal}
use Rattle.l6_session.specs.Texts.{chain_text}
use Rattle.l6_marks.proofs.Pushing.{on_ok, text_on, when_ok}
use Rattle.l6_session.proofs.values.push_outside.Goals as goal

-- the field, and the pointer
pub returns : goal.returns
returns c =
    let old = c.args.text.now.items in
    let begin = codes "the word of the field " in
    let field = chain_text (c.args.field ∷ []) in
    let past = codes " is past the end of the block at " in
    let pointer = decimal c.args.pointer in
    on_ok c.extend_from_slice-3.result
    (λ last.
    text_on old (begin ++ field ++ past ++ pointer) (codes "\n")
    (text_on old (begin ++ field ++ past) pointer
    (text_on old (begin ++ field) past
    (text_on old begin field c.in_ok-extend_from_slice.ensures.items c.in_ok-push_names.ensures)
    c.in_ok-extend_from_slice-2.ensures.items)
    (c.in_ok-push_decimal.ensures
    ∙ ap (λ word. c.extend_from_slice-2.new.self.items ++ decimal word) c.get.ensures.value))
    last)
    (when_ok (c.push_decimal.new.text.items ++ codes "\n") c.push_decimal.new.text.items
    c.extend_from_slice-3.result c.extend_from_slice-3.ensures.items)
