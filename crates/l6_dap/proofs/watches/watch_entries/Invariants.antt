use Rattle.std.proofs.Common.{◌≡◌, ◌++◌, drop, length, map}
use Rattle.serde_json.specs.View.{view}
use Rattle.l6_dap.specs.Watches.{said_from, watching}
use Rattle.l6_dap.specs.inner.Watching.{with_chains}
use Rattle.l6_dap.proofs.watches.watch_entries.Given as goal

abbrev pub invariant-loop-entry : goal.invariant-loop-entry
invariant-loop-entry l =
    let old = l.initial.session in
    let there = l.session.state.stop.watched in
    let rest = map view (drop l.entry-index l.entries) in
    let all = map view l.entries in
    record {
      said : map view l.said.items ++ said_from (length there) rest ≡ said_from (length old.state.stop.watched) all;
      watched : with_chains rest there ≡ with_chains all old.state.stop.watched;
      others : l.session ≡ watching there old;
    }
