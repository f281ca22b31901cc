use Rattle.std.proofs.Common.{◌≡◌, ◌∙◌, ap, subst}
use Rattle.l6_steps.specs.Configuration.{configuration_after}
use Rattle.l6_steps.specs.RunState.{RunState}
use Rattle.l6_instructions.specs.inner.CompiledProgram.{CompiledParts}
use Rattle.l6_machine.specs.inner.CompiledProgram.{control_of}
use Rattle.l6_machine.specs.inner.Progress.{configuration_of, context_of}
use Rattle.l6_machine.proofs.machine.Machine.go_on.Goals as goal

-- the machine is at the next configuration
pub returns-clause-configuration : goal.returns-clause-configuration
returns-clause-configuration g c =
    let rule = g.S.Places.rule in
    let inside = c.self.inside in
    let leads =
    subst
    (λ (code : CompiledParts).
    configuration_of c.go_here.new.registers (control_of code.layout c.go_here.new.self)
    ≡ configuration_after rule (context_of code.program inside.registers)
    (configuration_of inside.registers (control_of code.layout inside.progress)))
    c.deref.ensures c.go_here.ensures.reaches.configuration in
    leads ∙ ap (λ (s : RunState). configuration_after rule s.context s.configuration) c.self.view_is
