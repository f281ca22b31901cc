use Rattle.std.proofs.Common.{ap, ◌∙◌}
use Rattle.std.specs.Prelude.{unwrap_or}
use Rattle.l6_dap.specs.Debugged.{Debugged}
use Rattle.l6_dap.specs.Frames.{positions_of}
use Rattle.l6_dap.specs.Showing.{state_of}
use Rattle.l6_dap.specs.inner.Asked.{arguments_of}
use Rattle.l6_dap.proofs.Framing.{stack_from}
use Rattle.l6_dap.proofs.frames.stack_trace.Goals as goal

pub returns : goal.returns
returns c =
    stack_from c.args.debuggee.now.names.labels (state_of c.args.debuggee.now.run) (arguments_of c.args.request)
    c.as_slice.result.now c.unwrap_or-first.result c.number-levels.result _
    (c.as_slice.ensures.value ∙ c.in_ok-positions.ensures
    ∙ ap (λ it. positions_of it.configuration.state) c.machine.ensures
    ∙ ap (λ (it : Debugged). positions_of (state_of it.run)) c.debuggee.view_is)
    (c.unwrap_or-first.ensures ∙ ap (λ it. unwrap_or it 0) c.number.ensures)
    c.number-levels.ensures c.in_ok-part.ensures
