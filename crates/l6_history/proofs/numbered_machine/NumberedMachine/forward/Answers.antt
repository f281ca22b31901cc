use Rattle.std.proofs.Common.{◌≤◌, sym, subst, ap, ◌∙◌, arith}
use Rattle.l6_history.specs.History.{number_to}
use Rattle.l6_history.specs.inner.NumberedMachine.{NumberedMachine}
use Rattle.l6_history.proofs.NumberedMachines.{goes_to, last_bound}
use Rattle.l6_history.proofs.numbered_machine.NumberedMachine.forward.Goals as goal

pub overflow_add-self : goal.overflow_add-self
overflow_add-self g c =
    let rule = g.S.Places.rule in
    let bound = last_bound rule c.self.inside.machine.context c.self.invariant.allowed in
    let there =
    goes_to rule c.self.inside.machine c.run_to-ran.new.self c.self.inside.number c.args.number
    c.run_to-ran.result c.self.invariant
    (subst (λ (v : NumberedMachine). v.number ≤ c.args.number) (sym c.self.view_is) c.requires)
    (record {
      context = c.run_to-ran.ensures.context;
      numbered = c.run_to-ran.ensures.numbered;
      counted = c.run_to-ran.ensures.ran;
      few = c.run_to-ran.ensures.few;
      stops = c.run_to-ran.ensures.stops;
    }) in
    let within = there.0.within in
    omega (arith, bound, there.1)

pub invariant_of-self : goal.invariant_of-self
invariant_of-self g c =
    (goes_to g.S.Places.rule c.self.inside.machine c.run_to-ran.new.self c.self.inside.number
    c.args.number c.run_to-ran.result c.self.invariant
    (subst (λ (v : NumberedMachine). v.number ≤ c.args.number) (sym c.self.view_is) c.requires)
    (record {
      context = c.run_to-ran.ensures.context;
      numbered = c.run_to-ran.ensures.numbered;
      counted = c.run_to-ran.ensures.ran;
      few = c.run_to-ran.ensures.few;
      stops = c.run_to-ran.ensures.stops;
    })).0

pub returns-clause-number : goal.returns-clause-number
returns-clause-number g c =
    (goes_to g.S.Places.rule c.self.inside.machine c.run_to-ran.new.self c.self.inside.number
    c.args.number c.run_to-ran.result c.self.invariant
    (subst (λ (v : NumberedMachine). v.number ≤ c.args.number) (sym c.self.view_is) c.requires)
    (record {
      context = c.run_to-ran.ensures.context;
      numbered = c.run_to-ran.ensures.numbered;
      counted = c.run_to-ran.ensures.ran;
      few = c.run_to-ran.ensures.few;
      stops = c.run_to-ran.ensures.stops;
    })).1
    ∙ ap (λ (v : NumberedMachine). number_to g.S.Places.rule v.context c.args.number) c.self.view_is
