use Rattle.std.proofs.Common.{◌≡◌, ◌+◌, ◌++◌, drop}
use Rattle.std.specs.List.{enumerate_from, flat_map}
use Rattle.l6_debug.specs.Answer.{field_line}
use Rattle.l6_debug.proofs.showing.push_fields.Given as goal

-- the text so far, with the lines of the fields that are left, is that of all fields
abbrev pub invariant-loop-name : goal.invariant-loop-name
invariant-loop-name l =
    l.text.items ++ flat_map field_line (enumerate_from (0 + l.name) (drop l.name l.definitions))
    ≡ l.fn.text.items ++ flat_map field_line (enumerate_from 0 l.definitions)
