use Rattle.std.proofs.Common.{refl, sym, ap, ◌∙◌}
use Rattle.l6_session.specs.SessionState.{over, on_to}
use Rattle.l6_session.proofs.Repeats.{repeated_none, repeats}
use Rattle.l6_session.proofs.session.Session.go_over.Goals as goal

pub loop-init : goal.loop-init
loop-init g c = record {
  context = refl;
  state = sym (repeated_none (over g.S.Places.rule c.args.self.now.context) c.args.self.now.state);
}

-- once more
pub loop-preserved : goal.loop-preserved
loop-preserved g c = record {
  context = c.on_to.ensures.context ∙ c.loop.invariant.context;
  state = repeats (over g.S.Places.rule) c.loop.self.context c.args.self.now.context
      c.on_to.new.self.state c.loop.self.state c.args.self.now.state c.loop.counter
      c.loop.invariant.context
      (c.on_to.ensures.state
      ∙ ap (λ depth. on_to g.S.Places.rule c.loop.self.context c.loop.self.state depth)
      c.depth.ensures)
      c.loop.invariant.state;
}
