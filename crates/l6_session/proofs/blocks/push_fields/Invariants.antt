use Rattle.std.proofs.Common.{◌≡◌, ◌+◌, ◌++◌, length}
use Rattle.std.specs.List.{enumerate_from, flat_map}
use Rattle.l6_prog.specs.Numerals.{name_count}
use Rattle.l6_session.specs.Blocks.{field_line, fields_text}
use Rattle.l6_session.proofs.blocks.push_fields.Given as goal

-- the text so far, with the lines of the fields that are left, is that of all
abbrev pub invariant-loop-definition : goal.invariant-loop-definition
invariant-loop-definition g l = record {
  text : l.text.items
      ++ flat_map (field_line l.machine.configuration.state.memory.blocks l.place)
      (enumerate_from l.name l.rest)
      ≡ l.fn.text.items ++ fields_text l.machine.configuration.state.memory l.place;
  names : l.name + length l.rest ≡ name_count;
}

abbrev pub decreases-loop-definition : goal.decreases-loop-definition
decreases-loop-definition g l = length l.rest
