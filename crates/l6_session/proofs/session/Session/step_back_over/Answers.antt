use Rattle.std.proofs.Common.{refl, sym, ◌∙◌}
use Rattle.l6_session.specs.SessionState.{back_over_statement}
use Rattle.l6_session.proofs.Repeats.{repeated_none, repeats}
use Rattle.l6_session.proofs.session.Session.step_back_over.Goals as goal

pub loop-init : goal.loop-init
loop-init g c = record {
  context = refl;
  state = sym (repeated_none (back_over_statement g.S.Places.rule c.args.self.now.context) c.args.self.now.state);
}

-- once more
pub loop-preserved : goal.loop-preserved
loop-preserved g c = record {
  context = c.back_over_statement.ensures.context ∙ c.loop.invariant.context;
  state = repeats (back_over_statement g.S.Places.rule) c.loop.self.context c.args.self.now.context
      c.back_over_statement.new.self.state c.loop.self.state c.args.self.now.state c.loop.counter
      c.loop.invariant.context c.back_over_statement.ensures.state c.loop.invariant.state;
}
