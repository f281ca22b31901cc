use Rattle.std.proofs.Common.{ap, ◌∙◌}
use Rattle.l6_dap.proofs.Sending.{all_sent}
use Rattle.l6_dap.proofs.standing.print.Goals as goal

pub returns-then-output-debuggee-clause-printed : goal.returns-then-output-debuggee-clause-printed
returns-then-output-debuggee-clause-printed c =
    all_sent _ _ c.output-output.result.now _ c.debuggee.view_is
    (c.output-output.ensures.value ∙ ap (λ it. it.configuration.state.memory.output) c.machine.ensures)
    c.if-output-debuggee.true
