use Rattle.std.proofs.Common.{◌≡◌, ◌++◌, length}
use Rattle.std.specs.List.{flat_map}
use Rattle.l6_session.specs.Blocks.{dangling_lines}
use Rattle.l6_session.proofs.blocks.push_places.Given as goal

-- the text so far, with the lines of the blocks that are left, is that of all
abbrev pub invariant-loop-place : goal.invariant-loop-place
invariant-loop-place g l =
    l.text.items
    ++ flat_map
    (dangling_lines l.machine.context.parameters.units l.machine.configuration.state.memory) l.rest
    ≡ l.fn.text.items
    ++ flat_map
    (dangling_lines l.machine.context.parameters.units l.machine.configuration.state.memory)
    l.fn.places

abbrev pub decreases-loop-place : goal.decreases-loop-place
decreases-loop-place g l = length l.rest
