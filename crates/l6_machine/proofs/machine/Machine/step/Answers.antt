use Rattle.std.proofs.Common.{◌≡◌, ◌∙◌, ap, subst, false, None}
use Rattle.l6_store.specs.Rule.{Rule}
use Rattle.l6_steps.specs.declared.halt.StepResult.{StepResult}
use Rattle.l6_steps.specs.declared.halt.StepResult.TheVariants.{Trapped}
use Rattle.l6_steps.specs.declared.trap.Trap.{Trap}
use Rattle.l6_steps.specs.Configuration.{configuration_after}
use Rattle.l6_steps.specs.RunState.{RunState}
use Rattle.l6_steps.specs.State.{is_last}
use Rattle.l6_steps.specs.Step.{Step, answer}
use Rattle.l6_instructions.specs.inner.CompiledProgram.{CompiledParts}
use Rattle.l6_registers.specs.inner.Registers.{Held}
use Rattle.l6_machine.specs.declared.progress.Progress.{Progress}
use Rattle.l6_machine.specs.inner.CompiledProgram.{control_of}
use Rattle.l6_machine.specs.inner.Progress.{configuration_of, state_of, context_of}
use Rattle.l6_machine.proofs.Stepping.{steps_on, trapped_at, traps_alone}
use Rattle.l6_machine.proofs.machine.Machine.step.Goals as goal

-- what a step of this code leads to, and answers
abbrev Leads : Rule → CompiledParts → Held → Progress → Held → Progress → StepResult → Type 0
Leads rule code old from new to result =
    (configuration_of new (control_of code.layout to)
    ≡ configuration_after rule (context_of code.program old)
    (configuration_of old (control_of code.layout from)))
    × (result
    ≡ answer (context_of code.program old) (state_of old (control_of code.layout from))
    (state_of new (control_of code.layout to)))

-- the machine is at the next configuration
pub returns-clause-configuration : goal.returns-clause-configuration
returns-clause-configuration g c =
    let inside = c.self.inside in
    let leads =
    subst
    (λ (code : CompiledParts).
    Leads g.S.Places.rule code inside.registers inside.progress c.step.new.registers
    c.step.new.self c.step.result)
    c.deref.ensures (c.step.ensures.configuration, c.step.ensures.answer) in
    leads.0
    ∙ ap (λ (s : RunState). configuration_after g.S.Places.rule s.context s.configuration)
    c.self.view_is

-- that is a step further
pub returns-clause-step : goal.returns-clause-step
returns-clause-step g c =
    let inside = c.self.inside in
    let leads =
    subst
    (λ (code : CompiledParts).
    Leads g.S.Places.rule code inside.registers inside.progress c.step.new.registers
    c.step.new.self c.step.result)
    c.deref.ensures (c.step.ensures.configuration, c.step.ensures.answer) in
    let new =
    configuration_of c.step.new.registers (control_of inside.code.value.layout c.step.new.self) in
    let sound = c.self.invariant in
    subst
    (λ (s : RunState). is_last s.context s.configuration.state ≡ false →
    Step s.context s.configuration.state new.state)
    c.self.view_is
    (steps_on g.S.Places.rule _ _ new sound.sound.are_held.chooses leads.0)

-- a trap changes the ending alone
pub returns-clause-trapped : goal.returns-clause-trapped
returns-clause-trapped g c =
    let inside = c.self.inside in
    let leads =
    subst
    (λ (code : CompiledParts).
    Leads g.S.Places.rule code inside.registers inside.progress c.step.new.registers
    c.step.new.self c.step.result)
    c.deref.ensures (c.step.ensures.configuration, c.step.ensures.answer) in
    let new =
    configuration_of c.step.new.registers (control_of inside.code.value.layout c.step.new.self) in
    subst
    (λ (s : RunState).
    (trap : Trap) → s.configuration.state.ending ≡ None → c.step.result ≡ Trapped trap →
    new ≡ trapped_at s.configuration trap)
    c.self.view_is
    (traps_alone g.S.Places.rule _ _ new c.step.result leads.0 leads.1)
