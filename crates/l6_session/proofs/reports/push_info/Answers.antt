use Rattle.std.proofs.Common.{◌≡◌, ◌++◌, ap, length, rules, sym, ◌∙◌}
use Rattle.std.specs.Prelude.{codes}
use Rattle.std.proofs.lemmas.List.{append-nil}
use Rattle.l6_steps.specs.Configuration.{state_at}
use Rattle.l6_session.specs.Reports.{or_nothing, stops_lines}
use Rattle.l6_marks.proofs.Pushing.{none_added, on_ok, when_ok}
use Rattle.l6_session.proofs.reports.push_info.Goals as goal

-- no line was added
pub returns-then-len-begin : goal.returns-then-len-begin
returns-then-len-begin g c =
    let old = c.args.text.now.items in
    let now = c.push_stops.new.text.items in
    let session = c.args.session.now in
    let lines = stops_lines c.args.names.now.labels
    (state_at g.S.Places.rule session.context session.state.number).memory session.state in
    let nothing = codes "No breakpoint is set, and nothing is watched or displayed\n" in
    let same : length now ≡ length old = search rules in
    let none = none_added old lines c.in_ok-push_stops.ensures same in
    on_ok c.extend_from_slice.result
    (λ last.
    last ∙ ap (λ text. text ++ nothing) (c.in_ok-push_stops.ensures
    ∙ ap (λ added. old ++ added) none ∙ append-nil old)
    ∙ ap (λ added. old ++ or_nothing added) (sym none))
    (when_ok (now ++ nothing) now c.extend_from_slice.result c.extend_from_slice.ensures.items)
