use Rattle.std.proofs.Common.{◌++◌, append_assoc, ◌∙◌}
use Rattle.std.specs.Prelude.{codes, decimal}
use Rattle.l6_marks.proofs.Pushing.{on_ok, text_on, when_ok}
use Rattle.l6_session.proofs.printed.push_more.Goals as goal

-- the words, the number, and the words after it
pub returns : goal.returns
returns c =
    let old = c.args.text.now.items in
    let words = codes "      printed " in
    let number = decimal c.args.count in
    let more = codes " more, see out\n" in
    on_ok c.extend_from_slice.result
    (λ last.
    text_on old (words ++ number) more
    (c.in_ok-push_counted.ensures ∙ append_assoc old words number) last)
    (when_ok (c.push_counted.new.text.items ++ more) c.push_counted.new.text.items
    c.extend_from_slice.result c.extend_from_slice.ensures.items)
