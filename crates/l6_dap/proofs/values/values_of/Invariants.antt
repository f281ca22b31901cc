use Rattle.std.proofs.Common.{◌≡◌, ◌++◌, drop, map}
use Rattle.serde_json.specs.View.{view}
use Rattle.l6_dap.specs.Values.{nodes_after_all, values_of}
use Rattle.l6_dap.proofs.values.values_of.Given as goal

abbrev pub invariant-loop-variable : goal.invariant-loop-variable
invariant-loop-variable l =
    let memory = l.machine.configuration.state.memory in
    let units = l.machine.context.parameters.units in
    record {
      list : map view l.list.items ++ values_of units memory l.nodes (drop l.variable-index l.variables)
          ≡ values_of units memory l.initial.nodes l.variables;
      nodes : nodes_after_all memory (drop l.variable-index l.variables) l.nodes
          ≡ nodes_after_all memory l.variables l.initial.nodes;
    }
