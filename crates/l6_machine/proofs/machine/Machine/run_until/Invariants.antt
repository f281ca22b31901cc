use Rattle.std.proofs.Common.{◌≡◌, ℕ, ◌+◌, ◌-◌, ◌<◌, ◌≤◌, false}
use Rattle.l6_steps.specs.State.{is_last}
use Rattle.l6_machine.specs.Counting.{number_of}
use Rattle.l6_machine.specs.Later.{configuration_later, sees, state_later}
use Rattle.l6_machine.proofs.machine.Machine.run_until.Given as goal

-- so many steps were made, and none of the states was watched for
abbrev pub invariant-steps : goal.invariant-steps
invariant-steps g l = record {
  context : l.self.context ≡ l.fn.self.context;
  there : l.self.configuration
      ≡ configuration_later g.S.Places.rule l.fn.self.context l.made l.fn.self.configuration;
  goes_on : (k : ℕ) → k < l.made →
      is_last l.fn.self.context
      (state_later g.S.Places.rule l.fn.self.context k l.fn.self.configuration) ≡ false;
  unseen : (k : ℕ) → 1 ≤ k → k < l.made + 1 →
      sees (g.W.Watch.stops l.watch) (g.W.Watch.changed l.watch)
      (state_later g.S.Places.rule l.fn.self.context k l.fn.self.configuration) ≡ false;
  unchanged : g.W.Watch.changed l.watch l.self.configuration.state ≡ false;
  counted : number_of l.self.configuration.state
      ≡ number_of l.fn.self.configuration.state + l.made;
  few : l.made ≤ l.count - number_of l.fn.self.configuration.state;
}

abbrev pub decreases-steps : goal.decreases-steps
decreases-steps g l = l.limit + 1 - number_of l.self.configuration.state
