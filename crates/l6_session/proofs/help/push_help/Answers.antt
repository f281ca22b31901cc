use Rattle.std.proofs.Common.{◌++◌, ap, ◌∙◌}
use Rattle.std.specs.Prelude.{codes}
use Rattle.l6_session.specs.Command.{verbs}
use Rattle.l6_session.specs.Help.{listed}
use Rattle.l6_marks.proofs.Pushing.{on_ok, text_on, when_ok}
use Rattle.l6_session.proofs.help.push_help.Goals as goal

-- what is said before the list, the list, and what is said after it
pub returns : goal.returns
returns c =
    let old = c.args.text.now.items in
    let begin = codes "Commands may be abbreviated as shown. An empty line repeats the last one.\n" in
    let end = codes "PLACE is a label, the number of a statement, or : and the number of a card.\n" in
    on_ok c.extend_from_slice-2.result
    (λ last.
    text_on old (begin ++ listed verbs) end
    (text_on old begin (listed verbs) c.in_ok-extend_from_slice.ensures.items
    (c.in_ok-push_listed.ensures
    ∙ ap (λ of. c.extend_from_slice.new.self.items ++ listed of) c.verbs.ensures))
    last)
    (when_ok (c.push_listed.new.text.items ++ end) c.push_listed.new.text.items
    c.extend_from_slice-2.result c.extend_from_slice-2.ensures.items)
