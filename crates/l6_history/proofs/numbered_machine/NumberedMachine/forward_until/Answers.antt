use Rattle.std.proofs.Common.{◌≡◌, ℕ, ◌+◌, ◌<◌, ◌≤◌, Bool, true, false, sym, subst, arith}
use Rattle.l6_steps.specs.Configuration.{state_at}
use Rattle.l6_steps.specs.State.{State}
use Rattle.l6_machine.specs.Later.{sees}
use Rattle.l6_history.specs.History.{number_to}
use Rattle.l6_history.specs.inner.NumberedMachine.{NumberedMachine}
use Rattle.l6_history.proofs.NumberedMachines.{goes-until, last_bound}
use Rattle.l6_history.proofs.numbered_machine.NumberedMachine.forward_until.Goals as goal

-- no number is greater than the last
pub overflow_add-self : goal.overflow_add-self
overflow_add-self g c =
    let rule = g.S.Places.rule in
    let watched : State → Bool =
    sees (g.W.Watch.stops c.args.watch.now) (g.W.Watch.changed c.args.watch.now) in
    let comes =
    goes-until rule c.self.inside.machine c.run_until-ran.new.self c.self.inside.number c.args.number
    c.run_until-ran.result watched c.self.invariant
    (subst (λ (v : NumberedMachine). v.number ≤ c.args.number) (sym c.self.view_is) c.requires.before)
    (record {
      context = c.run_until-ran.ensures.context;
      there = c.run_until-ran.ensures.there;
      goes_on = c.run_until-ran.ensures.goes_on;
      unseen = c.run_until-ran.ensures.unseen;
      few = c.run_until-ran.ensures.few;
      stops = c.run_until-ran.ensures.stops;
    }) in
    let bound = last_bound rule c.self.inside.machine.context c.self.invariant.allowed in
    let within = comes.within in
    omega (arith, bound, within)

-- it is at the state of the number
pub invariant_of-self : goal.invariant_of-self
invariant_of-self g c =
    let rule = g.S.Places.rule in
    let watched : State → Bool =
    sees (g.W.Watch.stops c.args.watch.now) (g.W.Watch.changed c.args.watch.now) in
    let comes =
    goes-until rule c.self.inside.machine c.run_until-ran.new.self c.self.inside.number c.args.number
    c.run_until-ran.result watched c.self.invariant
    (subst (λ (v : NumberedMachine). v.number ≤ c.args.number) (sym c.self.view_is) c.requires.before)
    (record {
      context = c.run_until-ran.ensures.context;
      there = c.run_until-ran.ensures.there;
      goes_on = c.run_until-ran.ensures.goes_on;
      unseen = c.run_until-ran.ensures.unseen;
      few = c.run_until-ran.ensures.few;
      stops = c.run_until-ran.ensures.stops;
    }) in
    comes.at

pub returns-clause-within : goal.returns-clause-within
returns-clause-within g c =
    let rule = g.S.Places.rule in
    let watched : State → Bool =
    sees (g.W.Watch.stops c.args.watch.now) (g.W.Watch.changed c.args.watch.now) in
    let comes =
    goes-until rule c.self.inside.machine c.run_until-ran.new.self c.self.inside.number c.args.number
    c.run_until-ran.result watched c.self.invariant
    (subst (λ (v : NumberedMachine). v.number ≤ c.args.number) (sym c.self.view_is) c.requires.before)
    (record {
      context = c.run_until-ran.ensures.context;
      there = c.run_until-ran.ensures.there;
      goes_on = c.run_until-ran.ensures.goes_on;
      unseen = c.run_until-ran.ensures.unseen;
      few = c.run_until-ran.ensures.few;
      stops = c.run_until-ran.ensures.stops;
    }) in
    subst
    (λ (v : NumberedMachine).
    c.self.inside.number + c.run_until-ran.result ≤ number_to rule v.context c.args.number)
    c.self.view_is comes.within

-- none of the states between is watched for
pub returns-clause-unseen : goal.returns-clause-unseen
returns-clause-unseen g c =
    let rule = g.S.Places.rule in
    let watched : State → Bool =
    sees (g.W.Watch.stops c.args.watch.now) (g.W.Watch.changed c.args.watch.now) in
    let comes =
    goes-until rule c.self.inside.machine c.run_until-ran.new.self c.self.inside.number c.args.number
    c.run_until-ran.result watched c.self.invariant
    (subst (λ (v : NumberedMachine). v.number ≤ c.args.number) (sym c.self.view_is) c.requires.before)
    (record {
      context = c.run_until-ran.ensures.context;
      there = c.run_until-ran.ensures.there;
      goes_on = c.run_until-ran.ensures.goes_on;
      unseen = c.run_until-ran.ensures.unseen;
      few = c.run_until-ran.ensures.few;
      stops = c.run_until-ran.ensures.stops;
    }) in
    subst
    (λ (v : NumberedMachine).
    (k : ℕ) → v.number < k → k < c.self.inside.number + c.run_until-ran.result →
    watched (state_at rule v.context k) ≡ false)
    c.self.view_is comes.unseen

-- and short of the goal it is at one
pub returns-clause-stops : goal.returns-clause-stops
returns-clause-stops g c =
    let rule = g.S.Places.rule in
    let watched : State → Bool =
    sees (g.W.Watch.stops c.args.watch.now) (g.W.Watch.changed c.args.watch.now) in
    let comes =
    goes-until rule c.self.inside.machine c.run_until-ran.new.self c.self.inside.number c.args.number
    c.run_until-ran.result watched c.self.invariant
    (subst (λ (v : NumberedMachine). v.number ≤ c.args.number) (sym c.self.view_is) c.requires.before)
    (record {
      context = c.run_until-ran.ensures.context;
      there = c.run_until-ran.ensures.there;
      goes_on = c.run_until-ran.ensures.goes_on;
      unseen = c.run_until-ran.ensures.unseen;
      few = c.run_until-ran.ensures.few;
      stops = c.run_until-ran.ensures.stops;
    }) in
    subst
    (λ (v : NumberedMachine).
    c.self.inside.number + c.run_until-ran.result < number_to rule v.context c.args.number →
    (v.number < c.self.inside.number + c.run_until-ran.result)
    × (watched (state_at rule v.context (c.self.inside.number + c.run_until-ran.result)) ≡ true))
    c.self.view_is comes.stops
