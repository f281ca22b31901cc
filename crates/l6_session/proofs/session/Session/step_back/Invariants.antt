use Rattle.std.proofs.Common.{◌≡◌}
use Rattle.l6_session.specs.SessionState.{back_statement, repeated}
use Rattle.l6_session.proofs.session.Session.step_back.Given as goal

-- so many times so far
abbrev pub invariant-loop : goal.invariant-loop
invariant-loop g l = record {
  context : l.self.context ≡ l.fn.self.context;
  state : l.self.state
      ≡ repeated l.counter (back_statement g.S.Places.rule l.fn.self.context) l.fn.self.state;
}
