use Rattle.std.proofs.Common.{◌≡◌, ◌+◌, ◌<◌, true, false, refl, sym, ◌∙◌, subst, arith}
use Rattle.l6_steps.specs.Numbering.{last_number}
use Rattle.l6_history.specs.History.{number_to}
use Rattle.l6_history.specs.inner.NumberedMachine.{NumberedMachine}
use Rattle.l6_history.proofs.NumberedMachines.{goes_on_there, last_bound, stays_last, steps_on}
use Rattle.l6_history.proofs.numbered_machine.NumberedMachine.step.Goals as goal

-- the last state stays
pub returns-then-is_last-clause-number : goal.returns-then-is_last-clause-number
returns-then-is_last-clause-number g c =
    let last = stays_last g.S.Places.rule c.self.inside.machine c.self.inside.number
    c.self.invariant (sym c.is_last.ensures ∙ c.if-is_last.true) in
    subst (λ (v : NumberedMachine). v.number ≡ number_to g.S.Places.rule v.context (v.number + 1))
    c.self.view_is (omega (arith, last))

pub returns-then-is_last-clause-went : goal.returns-then-is_last-clause-went
returns-then-is_last-clause-went g c =
    let last = stays_last g.S.Places.rule c.self.inside.machine c.self.inside.number
    c.self.invariant (sym c.is_last.ensures ∙ c.if-is_last.true) in
    subst
    (λ (v : NumberedMachine). (false ≡ true → v.number < last_number g.S.Places.rule v.context)
    × (v.number < last_number g.S.Places.rule v.context → false ≡ true))
    c.self.view_is
    (λ wrong. absurd (cc), λ below. absurd (omega (arith, below, last)))

-- another one is followed by the next
pub overflow_add-self : goal.overflow_add-self
overflow_add-self g c =
    let bound = last_bound g.S.Places.rule c.self.inside.machine.context c.self.invariant.allowed in
    omega (arith, bound, c.self.invariant.within)

pub invariant_of-self : goal.invariant_of-self
invariant_of-self g c =
    steps_on g.S.Places.rule c.self.inside.machine c.step.new.self c.self.inside.number
    c.self.invariant (sym c.is_last.ensures ∙ c.if-is_last.false) c.step.ensures.configuration
    c.step.ensures.context

pub returns-clause-number : goal.returns-clause-number
returns-clause-number g c =
    let below = goes_on_there g.S.Places.rule c.self.inside.machine c.self.inside.number
    c.self.invariant (sym c.is_last.ensures ∙ c.if-is_last.false) in
    subst
    (λ (v : NumberedMachine). c.self.inside.number + 1
    ≡ number_to g.S.Places.rule v.context (v.number + 1))
    c.self.view_is (omega (arith, below))

pub returns-clause-went : goal.returns-clause-went
returns-clause-went g c =
    let below = goes_on_there g.S.Places.rule c.self.inside.machine c.self.inside.number
    c.self.invariant (sym c.is_last.ensures ∙ c.if-is_last.false) in
    subst
    (λ (v : NumberedMachine). (true ≡ true → v.number < last_number g.S.Places.rule v.context)
    × (v.number < last_number g.S.Places.rule v.context → true ≡ true))
    c.self.view_is (λ _. below, λ _. refl)
