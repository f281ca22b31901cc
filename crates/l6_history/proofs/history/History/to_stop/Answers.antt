use Rattle.std.proofs.Common.{◌∙◌, ap}
use Rattle.l6_history.specs.Stop.{Stop}
use Rattle.l6_history.specs.inner.Seeking.{goal_of, met_to}
use Rattle.l6_history.specs.inner.Watches.{ChainWatch}
use Rattle.l6_history.proofs.Sought.{stops_to}
use Rattle.l6_history.proofs.Watching.{stops_compare}
use Rattle.l6_history.proofs.history.History.to_stop.Goals as goal

-- one goes to where one stops, by whatever watch
pub returns-then-looks_further-clause-number : goal.returns-then-looks_further-clause-number
returns-then-looks_further-clause-number g c =
    let rule = g.S.Places.rule in
    let context = c.args.self.now.context in
    let number = c.args.self.now.number in
    c.seek.ensures.number
    ∙ ap (λ (s : Stop). met_to rule context (goal_of s) c.args.direction number) c.new.ensures
    ∙ stops_to rule context c.args.stop.now c.args.direction number

pub returns-then-watched-eq0-clause-number : goal.returns-then-watched-eq0-clause-number
returns-then-watched-eq0-clause-number g c =
    let rule = g.S.Places.rule in
    let context = c.args.self.now.context in
    let number = c.args.self.now.number in
    c.seek-then-watched-eq0.ensures.number
    ∙ ap (λ (s : Stop). met_to rule context (goal_of s) c.args.direction number)
    c.new-then-watched-eq0.ensures
    ∙ stops_to rule context c.args.stop.now c.args.direction number

pub returns-in-Some-clause-number : goal.returns-in-Some-clause-number
returns-in-Some-clause-number g c =
    let rule = g.S.Places.rule in
    let context = c.args.self.now.context in
    let number = c.args.self.now.number in
    c.seek-in-Some.ensures.number
    ∙ ap (λ (s : Stop). met_to rule context (goal_of s) c.args.direction number)
    c.new-in-Some.ensures.stop
    ∙ stops_to rule context c.args.stop.now c.args.direction number

pub seek-requires-then-may_stop-clause-compares : goal.seek-requires-then-may_stop-clause-compares
seek-requires-then-may_stop-clause-compares g c = stops_compare c.new-watch.result.stop

pub returns-then-may_stop-clause-number : goal.returns-then-may_stop-clause-number
returns-then-may_stop-clause-number g c =
    let rule = g.S.Places.rule in
    let context = c.args.self.now.context in
    let number = c.args.self.now.number in
    c.seek-then-may_stop.ensures.number
    ∙ ap (λ (s : Stop). met_to rule context (goal_of s) c.args.direction number)
    c.new-watch.ensures.stop
    ∙ stops_to rule context c.args.stop.now c.args.direction number

pub seek-requires-2-clause-compares : goal.seek-requires-2-clause-compares
seek-requires-2-clause-compares g c = stops_compare c.new-2.result.stop

pub returns-clause-number : goal.returns-clause-number
returns-clause-number g c =
    let rule = g.S.Places.rule in
    let context = c.args.self.now.context in
    let number = c.args.self.now.number in
    c.seek-2.ensures.number
    ∙ ap (λ (w : ChainWatch). met_to rule context (goal_of w.stop) c.args.direction number)
    c.new-2.ensures
    ∙ ap (λ (s : Stop). met_to rule context (goal_of s) c.args.direction number)
    c.new-watch.ensures.stop
    ∙ stops_to rule context c.args.stop.now c.args.direction number
