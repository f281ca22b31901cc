use Rattle.std.proofs.Common.{◌-◌, ◌∙◌, subst, arith}
use Rattle.l6_steps.specs.State.{RunContext}
use Rattle.l6_history.specs.inner.Seeking.{Goal, IsLast, NoneIn, is_met_back}
use Rattle.l6_history.proofs.Rings.{greatest_within}
use Rattle.l6_history.proofs.Sought.{last_farther, none_nearer}
use Rattle.l6_history.proofs.history.History.latest.Goals as goal

-- a stretch begins before its end
pub last_met-requires-clause-before : goal.last_met-requires-clause-before
last_met-requires-clause-before g c =
    let within = greatest_within (c.stretches.rest - 1) c.stretches.self.kept in
    omega (arith, within, c.go_back.ensures.number, c.stretches-test.true)

pub stretches-smaller : goal.stretches-smaller
stretches-smaller g c =
    let within = greatest_within (c.stretches.rest - 1) c.stretches.self.kept in
    omega (
      arith,
      within,
      c.go_back.ensures.number,
      c.stretches-test.true,
      c.number-begin.ensures.value,
    )

-- the last one of a stretch is the last one of all
pub returns-in-Some-clause-last : goal.returns-in-Some-clause-last
returns-in-Some-clause-last g c =
    let rule = g.S.Places.rule in
    let known = c.stretches.invariant in
    let same = c.go_back.ensures.context ∙ known.context in
    let found = subst (λ (w : RunContext). IsLast (is_met_back rule w (g.W.Seeker.goal c.stretches.watch))
    c.go_back.new.self.number c.stretches.rest c.in-Some.number) same c.in-Some.ensures.last in
    let there = subst (λ (sought : Goal). IsLast (is_met_back rule c.args.self.now.context sought)
    c.go_back.new.self.number c.stretches.rest c.in-Some.number) known.same found in
    last_farther (is_met_back rule c.args.self.now.context (g.W.Seeker.goal c.args.watch.now))
    c.go_back.new.self.number c.stretches.rest c.args.end c.in-Some.number there known.on known.none

-- a stretch has none
pub stretches-preserved : goal.stretches-preserved
stretches-preserved g c =
    let rule = g.S.Places.rule in
    let known = c.stretches.invariant in
    let same = c.go_back.ensures.context ∙ known.context in
    let within = greatest_within (c.stretches.rest - 1) c.stretches.self.kept in
    let here = subst (λ (w : RunContext). NoneIn (is_met_back rule w (g.W.Seeker.goal c.stretches.watch))
    c.go_back.new.self.number c.stretches.rest) same c.in-None.ensures.last in
    let there = subst (λ (sought : Goal). NoneIn (is_met_back rule c.args.self.now.context sought)
    c.go_back.new.self.number c.stretches.rest) known.same here in
    let none = none_nearer
    (is_met_back rule c.args.self.now.context (g.W.Seeker.goal c.args.watch.now))
    c.go_back.new.self.number c.stretches.rest c.args.end there known.none in
    record {
      context = c.in-None.ensures.context ∙ same;
      made = subst (λ (w : RunContext). g.W.Seeker.IsFor c.last_met.new.watch w.program) same
          c.in-None.ensures.made;
      same = c.in-None.ensures.same ∙ known.same;
      on = omega (
        arith,
        within,
        c.go_back.ensures.number,
        c.stretches-test.true,
        c.number-begin.ensures.value,
        known.on,
      );
      none = λ k from below. none k (omega (arith, from, c.number-begin.ensures.value)) below;
    }

-- before all that was looked through, there is nothing
pub returns-clause-last : goal.returns-clause-last
returns-clause-last g c =
    λ k from below. c.stretches.invariant.none k (omega (arith, c.stretches-test.false)) below
