use Rattle.std.proofs.Common.{◌≡◌, ap, ◌∙◌}
use Rattle.l6_history.specs.Seeking.{next_stop}
use Rattle.l6_history.specs.Stop.{Stop}
use Rattle.l6_debug.specs.DebuggerState.{next_breakpoint}
use Rattle.l6_debug.specs.inner.DebuggerRun.{DebuggerRun}
use Rattle.l6_debug.proofs.Stopping.{by_breakpoints, debugger_state_of}
use Rattle.l6_debug.proofs.debugger.Debugger.go.Goals as goal

-- the history stops at breakpoints alone
pub returns-clause-debugger_state : goal.returns-clause-debugger_state
returns-clause-debugger_state g c =
    let rule = g.S.Places.rule in
    let history = c.self.inside.history in
    let breakpoints = c.self.inside.stop.breakpoints in
    let old = c.args.self.now in
    let viewed = c.self.view_is in
    let there : c.to_next.new.self.number ≡ next_breakpoint rule old.context old.debugger_state =
    c.to_next.ensures.number
    ∙ ap (λ (s : Stop). next_stop rule history.context s history.number) c.self.invariant
    ∙ by_breakpoints rule history.context breakpoints history.number
    ∙ ap (λ (r : DebuggerRun). next_breakpoint rule r.context r.debugger_state) viewed in
    ap (λ n. debugger_state_of n breakpoints) there
    ∙ ap (λ (r : DebuggerRun). debugger_state_of (next_breakpoint rule old.context old.debugger_state)
    r.debugger_state.breakpoints) viewed
