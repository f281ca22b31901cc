use Rattle.std.proofs.Common.{◌≡◌, ◌++◌, ◌-◌, drop, length}
use Rattle.l6_store.specs.Blocks.{block_at}
use Rattle.l6_dap.specs.Variables.{parts_from, words_from}
use Rattle.l6_dap.proofs.variables.block_parts.Given as goal

abbrev pub invariant-loop-word : goal.invariant-loop-word
invariant-loop-word l =
    let memory = l.machine.configuration.state.memory in
    let block = block_at memory.blocks l.place in
    l.list.items ++ words_from l.index (drop l.index block)
    ≡ parts_from block l.chain 0 memory.definitions ++ words_from 0 block

abbrev pub decreases-loop-word : goal.decreases-loop-word
decreases-loop-word l = length (block_at l.machine.configuration.state.memory.blocks l.place) - l.index
