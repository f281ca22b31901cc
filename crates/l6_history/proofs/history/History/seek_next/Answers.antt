use Rattle.std.proofs.Common.{◌≡◌, ℕ, ◌<◌, ◌≤◌, Bool, false, true, refl, sym, ap, ◌∙◌, subst, arith}
use Rattle.std.specs.Prelude.{◌||◌}
use Rattle.std.proofs.lemmas.Bool.{or_parts}
use Rattle.l6_steps.specs.Configuration.{state_at}
use Rattle.l6_steps.specs.Numbering.{last_number}
use Rattle.l6_steps.specs.Numerals.{most_steps}
use Rattle.l6_steps.specs.RunState.{RunState}
use Rattle.l6_steps.specs.State.{RunContext, State}
use Rattle.l6_machine.specs.Later.{sees}
use Rattle.l6_history.specs.History.{number_to}
use Rattle.l6_history.proofs.Sought.{comes_alike, comes_on, is_seen, next-seen, none_on, none_yet}
use Rattle.l6_history.proofs.history.History.seek_next.Goals as goal

-- it begins at the state where it is
pub stretches-init : goal.stretches-init
stretches-init g c =
    let rule = g.S.Places.rule in
    let context = c.args.self.now.context in
    let sought = g.W.Seeker.goal c.args.watch.now in
    let number = c.args.self.now.number in
    let watch = c.begin.new.self in
    let here = state_at rule context number in
    let changed : (there : State) → g.W.Watch.changed watch there ≡ sought.between here there =
    λ there. c.begin.ensures.changed there
    ∙ ap (λ (s : RunState). sought.between s.configuration.state there) c.machine.ensures.value in
    record {
      context = refl;
      low = omega (arith, c.number.ensures.value, c.number.ensures.within, c.number.ensures.bound);
      suits = subst (λ (s : RunState). g.W.Watch.suits watch s.context.program)
          c.machine.ensures.value c.begin.ensures.suits;
      stops = c.begin.ensures.stops;
      changed = changed;
      passed = none_yet
          (λ n. sees (g.W.Watch.stops watch) (g.W.Watch.changed watch) (state_at rule context n)) number;
      unchanged = changed here ∙ c.requires.compares.unchanged here;
    }

-- one more stretch is looked through
pub stretches-preserved : goal.stretches-preserved
stretches-preserved g c =
    let rule = g.S.Places.rule in
    let watch = c.begin.new.self in
    let old = c.stretches.self in
    let new = c.stretch_until.new.self in
    let same = c.stretches.invariant.context in
    let seen : RunContext → ℕ → Bool =
    λ w n. sees (g.W.Watch.stops watch) (g.W.Watch.changed watch) (state_at rule w n) in
    let goes_on = c.stretch_until.ensures.goes_on c.stretches-test.true in
    let there = state_at rule c.args.self.now.context new.number in
    record {
      context = c.stretch_until.ensures.context ∙ same;
      low = omega (arith, c.stretch_until.ensures.within);
      suits = c.stretches.invariant.suits;
      stops = c.stretches.invariant.stops;
      changed = c.stretches.invariant.changed;
      passed =
          none_on (seen c.args.self.now.context) c.args.self.now.number old.number new.number
          c.stretches.invariant.passed goes_on.0
          (subst
          (λ w. (k : ℕ) → old.number < k → k < new.number → seen w k ≡ false)
          same c.stretch_until.ensures.unseen)
          (subst (λ w. seen w new.number ≡ false) same goes_on.1);
      unchanged =
          (or_parts (g.W.Watch.stops watch there) (g.W.Watch.changed watch there)
          (subst (λ w. seen w new.number ≡ false) same goes_on.1)).1;
    }

-- the last stretch ends where it comes to
pub returns-clause-number : goal.returns-clause-number
returns-clause-number g c =
    let rule = g.S.Places.rule in
    let context = c.args.self.now.context in
    let sought = g.W.Seeker.goal c.args.watch.now in
    let from = c.args.self.now.number in
    let watch = c.begin.new.self in
    let old = c.stretches.self in
    let new = c.stretch_until.new.self in
    let same = c.stretches.invariant.context in
    let last = last_number rule context in
    let seen : RunContext → ℕ → Bool =
    λ w n. sees (g.W.Watch.stops watch) (g.W.Watch.changed watch) (state_at rule w n) in
    let far : number_to rule context 18446744073709551615 ≡ last =
    (let bound = subst (λ w. last_number rule w ≤ most_steps) same c.stretch_until.ensures.bound in
    omega (arith, bound)) in
    let within : new.number ≤ last =
    (let here = subst (λ w. new.number ≤ number_to rule w 18446744073709551615) same c.stretch_until.ensures.within in
    omega (arith, here, far)) in
    let comes = comes_on (seen context) from old.number last new.number c.stretches.invariant.passed
    c.stretch_until.ensures.on within
    (subst (λ w. (k : ℕ) → old.number < k → k < new.number → seen w k ≡ false)
    same c.stretch_until.ensures.unseen)
    (λ below. subst
    (λ w. new.number < number_to rule w 18446744073709551615 → (old.number < new.number) × (seen w new.number ≡ true))
    same (c.stretch_until.ensures.stops c.stretches-test.false) (omega (arith, below, far))) in
    next-seen rule context sought c.requires.compares from new.number
    (comes_alike (seen context) (is_seen rule context sought from) from last new.number comes
    (λ n.
    (let there = state_at rule context n in
    ap (λ b. sought.at there || b) (sym (c.stretches.invariant.changed there))
    ∙ ap (λ b. b || g.W.Watch.changed watch there) (sym (c.stretches.invariant.stops there)))))
