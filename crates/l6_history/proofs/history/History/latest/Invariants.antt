use Rattle.std.proofs.Common.{◌≡◌, ◌≤◌}
use Rattle.l6_history.specs.inner.Seeking.{NoneIn, is_met_back}
use Rattle.l6_history.proofs.history.History.latest.Given as goal

-- none from the end of the next stretch on is one to which one goes
abbrev pub invariant-stretches : goal.invariant-stretches
invariant-stretches g l = record {
  context : l.self.context ≡ l.fn.self.context;
  made : g.W.Seeker.IsFor l.watch l.fn.self.context.program;
  same : g.W.Seeker.goal l.watch ≡ g.W.Seeker.goal l.fn.watch;
  on : l.rest ≤ l.end;
  none : NoneIn (is_met_back g.S.Places.rule l.fn.self.context (g.W.Seeker.goal l.fn.watch)) l.rest l.end;
}

abbrev pub decreases-stretches : goal.decreases-stretches
decreases-stretches g l = l.rest
