use Rattle.std.proofs.Common.{◌≡◌, ◌++◌, drop}
use Rattle.l6_store.specs.Blocks.{block_at}
use Rattle.l6_dap.specs.Variables.{parts_from}
use Rattle.l6_dap.proofs.variables.parts.Given as goal

abbrev pub invariant-loop-definition : goal.invariant-loop-definition
invariant-loop-definition l =
    let memory = l.machine.configuration.state.memory in
    record {
      number : l.number ≡ l.definition-index;
      list : l.list.items ++ parts_from (block_at memory.blocks l.place) l.chain l.number
          (drop l.definition-index memory.definitions)
          ≡ parts_from (block_at memory.blocks l.place) l.chain 0 memory.definitions;
    }
