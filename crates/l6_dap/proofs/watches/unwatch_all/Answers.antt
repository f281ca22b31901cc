use Rattle.std.proofs.Common.{ap, ◌∙◌}
use Rattle.l6_dap.proofs.Unwatching.{unwatched_all, unwatched_one}
use Rattle.l6_dap.proofs.watches.unwatch_all.Goals as goal

pub loop-turn-preserved : goal.loop-turn-preserved
loop-turn-preserved c =
    unwatched_one c.args.session.now c.loop-turn.session _ c.loop-turn.turn c.loop-turn.invariant
    c.obey.ensures.context c.obey.ensures.state

pub returns : goal.returns
returns c =
    unwatched_all c.args.session.now c.loop-turn.session c.loop-turn.turn c.watched-turn-end.result.now
    c.loop-turn.invariant (c.watched-turn-end.ensures.value ∙ ap (λ it. it.watched) c.stop.ensures) c.loop-turn-test.false
