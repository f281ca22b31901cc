use Rattle.std.proofs.Common.{◌≡◌, drop}
use Rattle.l6_dap.specs.Watches.{watching}
use Rattle.l6_dap.specs.inner.Watching.{with_all}
use Rattle.l6_dap.proofs.debuggee.watch_all.Given as goal

abbrev pub invariant-loop-one : goal.invariant-loop-one
invariant-loop-one l =
    let old = l.initial.session in
    let there = l.session.state.stop.watched in
    record {
      watched : with_all (drop l.one-index l.watched) there ≡ with_all l.watched old.state.stop.watched;
      others : l.session ≡ watching there old;
    }
