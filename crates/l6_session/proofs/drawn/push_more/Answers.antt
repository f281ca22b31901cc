use Rattle.std.proofs.Common.{◌++◌}
use Rattle.std.specs.Prelude.{codes, decimal}
use Rattle.l6_marks.proofs.Pushing.{on_ok, text_on, when_ok}
use Rattle.l6_session.proofs.drawn.push_more.Goals as goal

-- how many lines there are, between words
pub returns : goal.returns
returns c =
    let old = c.args.text.now.items in
    let words = codes "and " in
    let number = decimal c.args.further in
    let last = codes " more lines: draw all shows them\n" in
    on_ok c.extend_from_slice-2.result
    (λ added.
    text_on old (words ++ number) last
    (text_on old words number c.in_ok-extend_from_slice.ensures.items c.in_ok-push_decimal.ensures)
    added)
    (when_ok (c.push_decimal.new.text.items ++ last) c.push_decimal.new.text.items
    c.extend_from_slice-2.result c.extend_from_slice-2.ensures.items)
