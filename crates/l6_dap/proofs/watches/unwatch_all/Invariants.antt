use Rattle.std.proofs.Common.{◌≡◌, drop}
use Rattle.l6_dap.specs.Watches.{watching}
use Rattle.l6_dap.proofs.watches.unwatch_all.Given as goal

abbrev pub invariant-loop-turn : goal.invariant-loop-turn
invariant-loop-turn l =
    l.session ≡ watching (drop l.turn l.initial.session.state.stop.watched) l.initial.session
