use Rattle.std.proofs.Common.{◌≡◌, ◌++◌, drop}
use Rattle.std.specs.List.{enumerate_from, flat_map}
use Rattle.l6_draw.specs.Drawing.{field_line}
use Rattle.l6_draw.proofs.drawings.push_fields.Given as goal

-- the text so far, with the lines of the fields left, is that with the lines of all fields
abbrev pub invariant-loop-name : goal.invariant-loop-name
invariant-loop-name g l =
    l.text.items ++ flat_map (field_line l.machine.configuration.state.memory l.words)
    (enumerate_from l.name (drop l.name l.field-items))
    ≡ l.fn.text.items ++ flat_map (field_line l.machine.configuration.state.memory l.words)
    (enumerate_from 0 l.field-items)
