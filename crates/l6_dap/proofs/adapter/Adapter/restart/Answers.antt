use Rattle.std.proofs.Common.{sym, ap, ◌∙◌}
use Rattle.l6_dap.specs.Runs.{AdapterState}
use Rattle.l6_dap.proofs.Restarting.{restarted}
use Rattle.l6_dap.proofs.adapter.Adapter.restart.Goals as goal

pub returns : goal.returns
returns g c =
    restarted c.args.self.now c.begin.new.self c.in-Some.before c.in_ok-relaunched.field-0
    c.args.events.now c.begin.new.events c.begin.result
    (sym (ap (λ (it : AdapterState). it.debugged) c.self.view_is) ∙ sym c.take.ensures.value ∙ c.in-Some.is)
    c.in_ok-relaunched.ensures (c.begin.ensures.nodes ∙ c.clear.ensures)
    c.begin.ensures.begins
