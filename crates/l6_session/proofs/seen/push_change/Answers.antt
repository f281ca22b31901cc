use Rattle.std.proofs.Common.{◌++◌}
use Rattle.std.specs.Prelude.{codes}
use Rattle.l6_session.specs.Changes.{values_text}
use Rattle.l6_session.specs.Texts.{watched_name}
use Rattle.l6_marks.proofs.Pushing.{on_ok, text_on, when_ok}
use Rattle.l6_session.proofs.seen.push_change.Goals as goal

-- the words, what is watched, and its values
pub returns : goal.returns
returns c =
    let old = c.args.text.now.items in
    let words = codes "      watch " in
    let watched = watched_name c.args.watched.now in
    let values = values_text c.args.watched.now c.args.was c.args.is in
    on_ok c.extend_from_slice-3.result
    (λ last.
    text_on old (words ++ watched ++ codes ": " ++ values) (codes "\n")
    (text_on old (words ++ watched ++ codes ": ") values
    (text_on old (words ++ watched) (codes ": ")
    (text_on old words watched c.in_ok-extend_from_slice.ensures.items c.in_ok-push_watched_name.ensures)
    c.in_ok-extend_from_slice-2.ensures.items)
    c.in_ok-push_values.ensures)
    last)
    (when_ok (c.push_values.new.text.items ++ codes "\n") c.push_values.new.text.items
    c.extend_from_slice-3.result c.extend_from_slice-3.ensures.items)
