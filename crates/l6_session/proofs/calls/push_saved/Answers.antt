use Rattle.std.proofs.Common.{◌++◌, ap, length, ◌∙◌}
use Rattle.std.specs.Prelude.{codes}
use Rattle.std.specs.List.{flat_map}
use Rattle.l6_session.specs.Texts.{content_line, count_line, definition_line}
use Rattle.l6_marks.proofs.Pushing.{on_ok, text_on}
use Rattle.l6_session.proofs.calls.push_saved.Goals as goal

-- the counts, each with the lines of what it counts
pub returns : goal.returns
returns g c =
    let old = c.args.text.now.items in
    let memory = c.args.machine.now.configuration.state.memory in
    let contents = count_line (codes "CONTENTS ") (length memory.saved_contents) in
    let content_lines = flat_map content_line memory.saved_contents in
    let definitions = count_line (codes "DEFINITIONS ") (length memory.saved_definitions) in
    let definition_lines = flat_map definition_line memory.saved_definitions in
    on_ok c.push_definitions.result
    (λ last.
    text_on old (contents ++ content_lines ++ definitions) definition_lines
    (text_on old (contents ++ content_lines) definitions
    (text_on old contents content_lines
    (c.in_ok-push_counted.ensures
    ∙ ap (λ n. old ++ count_line (codes "CONTENTS ") n) c.depths-depths.ensures.contents)
    (c.in_ok-push_contents.ensures
    ∙ ap (λ saved. c.push_counted.new.text.items ++ flat_map content_line saved)
    c.saved_contents.ensures))
    (c.in_ok-push_counted-2.ensures
    ∙ ap (λ n. c.push_contents.new.text.items ++ count_line (codes "DEFINITIONS ") n)
    c.depths-depths.ensures.definitions))
    (last
    ∙ ap (λ saved. c.push_counted-2.new.text.items ++ flat_map definition_line saved)
    c.saved_definitions.ensures))
    c.push_definitions.ensures
