use Rattle.std.proofs.Common.{◌≡◌, ◌++◌, drop}
use Rattle.std.specs.List.{flat_map}
use Rattle.l6_draw.specs.Drawing.{block_lines}
use Rattle.l6_draw.proofs.drawings.push_blocks.Given as goal

-- the text so far, with the lines of the blocks left, is that with the lines of all blocks
abbrev pub invariant-loop-place : goal.invariant-loop-place
invariant-loop-place g l =
    l.text.items ++ flat_map (block_lines l.machine.configuration.state.memory)
    (drop l.place-index l.places)
    ≡ l.fn.text.items ++ flat_map (block_lines l.machine.configuration.state.memory) l.places
