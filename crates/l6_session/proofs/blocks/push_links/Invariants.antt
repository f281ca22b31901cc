use Rattle.std.proofs.Common.{◌≡◌, ◌+◌, ◌++◌, length}
use Rattle.std.specs.List.{enumerate_from, flat_map}
use Rattle.l6_prog.specs.Numerals.{name_count}
use Rattle.l6_session.specs.Blocks.{dangling_line, dangling_lines}
use Rattle.l6_session.proofs.blocks.push_links.Given as goal

-- the text so far, with the lines of the fields that are left, is that of all
abbrev pub invariant-loop-definition : goal.invariant-loop-definition
invariant-loop-definition g l = record {
  text : l.text.items
      ++ flat_map
      (dangling_line l.machine.context.parameters.units
      l.machine.configuration.state.memory.blocks l.place)
      (enumerate_from l.name l.rest)
      ≡ l.fn.text.items
      ++ dangling_lines l.machine.context.parameters.units l.machine.configuration.state.memory
      l.place;
  names : l.name + length l.rest ≡ name_count;
}

abbrev pub decreases-loop-definition : goal.decreases-loop-definition
decreases-loop-definition g l = length l.rest
