use Rattle.std.proofs.Common.{◌≡◌, ◌-◌, ◌≤◌}
use Rattle.l6_steps.specs.Configuration.{state_at}
use Rattle.l6_steps.specs.State.{State}
use Rattle.l6_history.specs.inner.Seeking.{IsLastIn, is_met_back}
use Rattle.l6_history.proofs.history.History.last_met.Given as goal

-- the watch sees what it would that began at this state; and the last one before it
abbrev pub invariant-states : goal.invariant-states
invariant-states g l = record {
  context : l.self.context ≡ l.fn.self.context;
  made : g.W.Seeker.IsFor l.watch l.fn.self.context.program;
  same : g.W.Seeker.goal l.watch ≡ g.W.Seeker.goal l.fn.watch;
  suits : g.W.Watch.suits l.watch l.fn.self.context.program;
  stops : (there : State) → g.W.Watch.stops l.watch there ≡ (g.W.Seeker.goal l.fn.watch).at there;
  changed : (there : State) → g.W.Watch.changed l.watch there
      ≡ (g.W.Seeker.goal l.fn.watch).between
      (state_at g.S.Places.rule l.fn.self.context l.self.number) there;
  from : l.fn.self.number ≤ l.self.number;
  on : l.self.number ≤ l.end;
  last : IsLastIn (is_met_back g.S.Places.rule l.fn.self.context (g.W.Seeker.goal l.fn.watch))
      l.fn.self.number l.self.number l.last;
}

abbrev pub decreases-states : goal.decreases-states
decreases-states g l = l.end - l.self.number
