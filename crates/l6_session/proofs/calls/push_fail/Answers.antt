use Rattle.std.proofs.Common.{◌++◌, ap, sym, ◌∙◌}
use Rattle.std.specs.Prelude.{codes, decimal}
use Rattle.l6_session.specs.Texts.{fail_text, label_text}
use Rattle.l6_marks.proofs.Pushing.{on_ok, text_on}
use Rattle.l6_session.proofs.calls.push_fail.Goals as goal

-- the words, the number and the label of the statement
pub returns : goal.returns
returns c =
    let old = c.args.text.now.items in
    let labels = c.args.labels.now.entries in
    let statement = c.in-Some.statement in
    let words = codes ", or by FAIL to " in
    on_ok c.push_label.result
    (λ last.
    text_on old (words ++ decimal statement) (label_text labels statement)
    (text_on old words (decimal statement) c.in_ok-extend_from_slice.ensures.items
    c.in_ok-push_decimal.ensures)
    (last ∙ ap (λ n. c.push_decimal.new.text.items ++ label_text labels n) c.from.ensures)
    ∙ ap (λ fail. old ++ fail_text labels fail) (sym c.in-Some.is))
    c.push_label.ensures
