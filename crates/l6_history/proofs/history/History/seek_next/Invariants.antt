use Rattle.std.proofs.Common.{◌≡◌, ◌-◌, ◌≤◌, false}
use Rattle.l6_steps.specs.Configuration.{state_at}
use Rattle.l6_steps.specs.Numbering.{last_number}
use Rattle.l6_steps.specs.State.{State}
use Rattle.l6_machine.specs.Later.{sees}
use Rattle.l6_history.specs.inner.Seeking.{NoneAfter}
use Rattle.l6_history.proofs.history.History.seek_next.Given as goal

-- no later state so far is watched for
abbrev pub invariant-stretches : goal.invariant-stretches
invariant-stretches g l = record {
  context : l.self.context ≡ l.fn.self.context;
  low : l.self.number ≤ 18446744073709551615;
  suits : g.W.Watch.suits l.watch l.fn.self.context.program;
  stops : (there : State) → g.W.Watch.stops l.watch there ≡ (g.W.Seeker.goal l.fn.watch).at there;
  changed : (there : State) → g.W.Watch.changed l.watch there
      ≡ (g.W.Seeker.goal l.fn.watch).between (state_at g.S.Places.rule l.fn.self.context l.fn.self.number) there;
  passed : NoneAfter
      (λ n. sees (g.W.Watch.stops l.watch) (g.W.Watch.changed l.watch)
      (state_at g.S.Places.rule l.fn.self.context n))
      l.fn.self.number l.self.number;
  unchanged : g.W.Watch.changed l.watch
      (state_at g.S.Places.rule l.fn.self.context l.self.number) ≡ false;
}

abbrev pub decreases-stretches : goal.decreases-stretches
decreases-stretches g l = last_number g.S.Places.rule l.self.context - l.self.number
