use Rattle.std.proofs.Common.{◌≡◌, ◌++◌, drop}
use Rattle.std.specs.List.{flat_map}
use Rattle.l6_word.specs.Numerals.{unit_size}
use Rattle.l6_draw.specs.StoreMap.{line_of, stretches_from}
use Rattle.l6_draw.proofs.store_maps.push_stretches.Given as goal

-- the text so far, with the lines from there on, is that with all lines
abbrev pub invariant-loop-place : goal.invariant-loop-place
invariant-loop-place g l =
    l.text.items ++ flat_map (line_of l.machine.configuration.state.memory)
    (stretches_from l.machine.configuration.state.memory l.from l.end (drop l.place-index l.places))
    ≡ l.fn.text.items ++ flat_map (line_of l.machine.configuration.state.memory)
    (stretches_from l.machine.configuration.state.memory unit_size l.end l.places)
