use Rattle.std.proofs.Common.{◌++◌}
use Rattle.std.specs.Prelude.{codes}
use Rattle.l6_marks.specs.Reasons.{reason_of}
use Rattle.l6_marks.proofs.Pushing.{on_ok, text_on, when_ok}
use Rattle.l6_marks.proofs.reason.push_reason.Goals as goal

-- the word before the reason, the reason, and the end of the line
pub returns : goal.returns
returns c =
    let old = c.args.text.now.items in
    let because = codes "      because " in
    let reason = reason_of c.args.trap in
    on_ok c.extend_from_slice-2.result
    (λ last.
    text_on old (because ++ reason) (codes "\n")
    (text_on old because reason c.in_ok-extend_from_slice.ensures.items c.in_ok-push_meaning.ensures)
    last)
    (when_ok (c.push_meaning.new.text.items ++ codes "\n") c.push_meaning.new.text.items
    c.extend_from_slice-2.result c.extend_from_slice-2.ensures.items)
