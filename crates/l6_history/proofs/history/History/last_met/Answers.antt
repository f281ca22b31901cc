use Rattle.std.proofs.Common.{◌≡◌, ℕ, ◌-◌, ◌<◌, ◌≤◌, Bool, false, true, Option, sym, ap, ◌∙◌, subst, arith}
use Rattle.l6_steps.specs.Configuration.{state_at}
use Rattle.l6_steps.specs.Numbering.{last_number}
use Rattle.l6_steps.specs.RunState.{RunState}
use Rattle.l6_steps.specs.State.{RunContext}
use Rattle.l6_machine.specs.Later.{sees}
use Rattle.l6_history.specs.inner.Seeking.{Goal, IsLast, IsLastIn, is_met_back, later_of}
use Rattle.l6_history.proofs.LastMet.{last_changed, last_unchanged, moves, unseen}
use Rattle.l6_history.proofs.history.History.last_met.Goals as goal

-- nothing has changed where a stretch begins
pub stretch_until-requires-clause-unchanged : goal.stretch_until-requires-clause-unchanged
stretch_until-requires-clause-unchanged g c =
    let rule = g.S.Places.rule in
    let number = c.states.self.number in
    let here = state_at rule c.args.self.now.context number in
    ap (λ w. g.W.Watch.changed c.states.watch (state_at rule w number)) c.states.invariant.context
    ∙ c.states.invariant.changed here
    ∙ c.requires.compares.unchanged here

-- one more stretch is looked through, at whose end nothing has changed
pub states-preserved : goal.states-preserved
states-preserved g c =
    let rule = g.S.Places.rule in
    let context = c.args.self.now.context in
    let sought = g.W.Seeker.goal c.args.watch.now in
    let compares = c.requires.compares in
    let begin = c.args.self.now.number in
    let from = c.states.self.number in
    let to = c.stretch_until.new.self.number in
    let watch = c.states.watch in
    let test = is_met_back rule context sought in
    let known = c.states.invariant in
    let ran = c.stretch_until.ensures in
    let here = state_at rule context from in
    let there = state_at rule context to in
    let seen : RunContext → ℕ → Bool =
    λ w n. sees (g.W.Watch.stops watch) (g.W.Watch.changed watch) (state_at rule w n) in
    let further : from < to = moves c.stretch_until.result from to c.args.end
    (last_number rule c.states.self.context)
    (omega (arith, c.number.ensures.value, c.states-test.true))
    (subst (λ (w : RunContext). c.args.end ≤ last_number rule w) (sym known.context) c.requires.within)
    (λ is. (ran.goes_on is).0) (λ is below. (ran.stops is below).0) in
    let between = unseen rule context sought (g.W.Watch.stops watch) (g.W.Watch.changed watch) from to
    known.stops known.changed
    (subst (λ w. (k : ℕ) → from < k → k < to → seen w k ≡ false) known.context ran.unseen) in
    let same = ran.context ∙ known.context in
    let held : c.has_changed.result ≡ sought.between here there =
    c.has_changed.ensures
    ∙ ap (λ (s : RunState). g.W.Watch.changed watch s.configuration.state) c.machine-in-states-2.ensures.value
    ∙ ap (λ (w : RunContext). g.W.Watch.changed watch (state_at rule w to)) same
    ∙ known.changed there in
    let unchanged : sought.between here there ≡ false = sym held ∙ c.if-has_changed.false in
    let placed : c.is_at_stop.result ≡ sought.at here =
    c.is_at_stop.ensures
    ∙ ap (λ (s : RunState). g.W.Watch.stops watch s.configuration.state) c.machine-in-states.ensures.value
    ∙ ap (λ (w : RunContext). g.W.Watch.stops watch (state_at rule w from)) known.context
    ∙ known.stops here in
    let last : c.later_of-last.result ≡ later_of (sought.at here) from c.states.last =
    c.later_of-last.ensures
    ∙ ap (λ b. later_of b c.number-in-states.result c.states.last) placed
    ∙ ap (λ n. later_of (sought.at here) n c.states.last) c.number-in-states.ensures.value in
    record {
      context = same;
      made = known.made;
      same = known.same;
      suits = known.suits;
      stops = known.stops;
      changed = λ state. known.changed state ∙ sym (compares.alike here there state unchanged);
      from = omega (arith, known.from, ran.on);
      on = omega (arith, ran.within);
      last = subst (λ (o : Option ℕ). IsLastIn test begin to o) (sym last)
          (last_unchanged rule context sought compares begin from to c.states.last known.from further between
          known.last unchanged);
    }

-- one more, at whose end something has; there the watch begins again
pub states-preserved-then-has_changed : goal.states-preserved-then-has_changed
states-preserved-then-has_changed g c =
    let rule = g.S.Places.rule in
    let context = c.args.self.now.context in
    let sought = g.W.Seeker.goal c.args.watch.now in
    let compares = c.requires.compares in
    let begin = c.args.self.now.number in
    let from = c.states.self.number in
    let to = c.stretch_until.new.self.number in
    let watch = c.states.watch in
    let test = is_met_back rule context sought in
    let known = c.states.invariant in
    let ran = c.stretch_until.ensures in
    let here = state_at rule context from in
    let there = state_at rule context to in
    let seen : RunContext → ℕ → Bool =
    λ w n. sees (g.W.Watch.stops watch) (g.W.Watch.changed watch) (state_at rule w n) in
    let further : from < to = moves c.stretch_until.result from to c.args.end
    (last_number rule c.states.self.context)
    (omega (arith, c.number.ensures.value, c.states-test.true))
    (subst (λ (w : RunContext). c.args.end ≤ last_number rule w) (sym known.context) c.requires.within)
    (λ is. (ran.goes_on is).0) (λ is below. (ran.stops is below).0) in
    let between = unseen rule context sought (g.W.Watch.stops watch) (g.W.Watch.changed watch) from to
    known.stops known.changed
    (subst (λ w. (k : ℕ) → from < k → k < to → seen w k ≡ false) known.context ran.unseen) in
    let same = ran.context ∙ known.context in
    let held : c.has_changed.result ≡ sought.between here there =
    c.has_changed.ensures
    ∙ ap (λ (s : RunState). g.W.Watch.changed watch s.configuration.state) c.machine-in-states-2.ensures.value
    ∙ ap (λ (w : RunContext). g.W.Watch.changed watch (state_at rule w to)) same
    ∙ known.changed there in
    let is : sought.between here there ≡ true = sym held ∙ c.if-has_changed.true in
    let new = c.begin-then-has_changed.new.self in
    let begun = c.begin-then-has_changed.ensures in
    let at = c.machine-then-has_changed.ensures.value in
    let back : c.number-then-has_changed.result - 1 ≡ to - 1 =
    ap (λ n. n - 1) c.number-then-has_changed.ensures.value in
    record {
      context = same;
      made = subst (λ (w : RunContext). g.W.Seeker.IsFor new w.program) same
          (subst (λ (s : RunState). g.W.Seeker.IsFor new s.context.program) at begun.made);
      suits = subst (λ (w : RunContext). g.W.Watch.suits new w.program) same
          (subst (λ (s : RunState). g.W.Watch.suits new s.context.program) at begun.suits);
      same = begun.same ∙ known.same;
      stops = λ state. begun.stops state ∙ ap (λ (there : Goal). there.at state) known.same;
      changed = λ state. begun.changed state
          ∙ ap (λ (there : Goal). there.between c.machine-then-has_changed.result.now.configuration.state state)
          known.same
          ∙ ap (λ (s : RunState). sought.between s.configuration.state state) at
          ∙ ap (λ (w : RunContext). sought.between (state_at rule w to) state) same;
      from = omega (arith, known.from, ran.on);
      on = omega (arith, ran.within);
      last = subst (λ n. IsLast test begin to n) (sym back)
          (last_changed rule context sought compares begin from to c.states.last known.from further between
          known.last is);
    }
