use Rattle.std.proofs.Common.{◌≡◌, ◌++◌, length, map}
use Rattle.serde_json.specs.View.{view}
use Rattle.l6_dap.specs.Scopes.{nodes_in, scopes_from}
use Rattle.l6_dap.proofs.Groups.{known}
use Rattle.l6_dap.proofs.scopes.scopes.Given as goal

abbrev pub invariant-loop-group : goal.invariant-loop-group
invariant-loop-group l =
    let all = known (l.yielded ++ l.group-iterator.rest.items) in
    record {
      list : map view l.list.items ++ scopes_from (length l.nodes) (known l.group-iterator.rest.items)
          ≡ scopes_from (length l.initial.nodes) all;
      nodes : l.nodes ++ nodes_in (known l.group-iterator.rest.items) ≡ l.initial.nodes ++ nodes_in all;
    }
