use Rattle.std.proofs.Common.{◌++◌}
use Rattle.std.specs.Prelude.{codes, decimal}
use Rattle.l6_session.specs.Texts.{fail_text, position_text}
use Rattle.l6_marks.proofs.Pushing.{on_ok, text_on, when_ok}
use Rattle.l6_session.proofs.calls.push_return.Goals as goal

-- the number, where the call goes on, and where it does by FAIL
pub returns : goal.returns
returns c =
    let old = c.args.text.now.items in
    let labels = c.args.labels.now.entries in
    let number = codes "#" ++ decimal c.args.number in
    let words = codes " returns to " in
    let at = position_text labels c.args.waiting.now.at in
    let fail = fail_text labels c.args.waiting.now.fail in
    on_ok c.extend_from_slice-3.result
    (λ last.
    text_on old (number ++ words ++ at ++ fail) (codes "\n")
    (text_on old (number ++ words ++ at) fail
    (text_on old (number ++ words) at
    (text_on old number words
    (text_on old (codes "#") (decimal c.args.number) c.in_ok-extend_from_slice.ensures.items
    c.in_ok-push_decimal.ensures)
    c.in_ok-extend_from_slice-2.ensures.items)
    c.in_ok-push_position.ensures)
    c.in_ok-push_fail.ensures)
    last)
    (when_ok (c.push_fail.new.text.items ++ codes "\n") c.push_fail.new.text.items
    c.extend_from_slice-3.result c.extend_from_slice-3.ensures.items)
