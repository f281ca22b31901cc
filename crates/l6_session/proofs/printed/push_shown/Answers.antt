use Rattle.std.proofs.Common.{◌++◌}
use Rattle.std.specs.Prelude.{codes}
use Rattle.l6_marks.proofs.Pushing.{on_ok, text_on, when_ok}
use Rattle.l6_session.proofs.printed.push_shown.Goals as goal

-- the words, and the line
pub returns : goal.returns
returns c =
    let old = c.args.text.now.items in
    let words = codes "      printed " in
    let line = c.args.line.now in
    on_ok c.extend_from_slice-3.result
    (λ last.
    text_on old (words ++ line) (codes "\n")
    (text_on old words line c.in_ok-extend_from_slice.ensures.items
    c.in_ok-extend_from_slice-2.ensures.items)
    last)
    (when_ok (c.extend_from_slice-2.new.self.items ++ codes "\n") c.extend_from_slice-2.new.self.items
    c.extend_from_slice-3.result c.extend_from_slice-3.ensures.items)
