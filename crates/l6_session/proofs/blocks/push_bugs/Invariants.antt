use Rattle.std.proofs.Common.{◌≡◌, ◌+◌, ◌++◌, length}
use Rattle.std.specs.List.{enumerate_from, flat_map}
use Rattle.l6_prog.specs.Numerals.{first_letter, name_count}
use Rattle.l6_session.specs.Blocks.{bug_line}
use Rattle.l6_session.proofs.blocks.push_bugs.Given as goal

-- the text so far, with the lines of the bugs that are left, is that of all
abbrev pub invariant-loop-word : goal.invariant-loop-word
invariant-loop-word g l = record {
  text : l.text.items
      ++ flat_map
      (bug_line l.machine.context.parameters.units l.machine.configuration.state.memory.blocks)
      (enumerate_from l.name l.rest)
      ≡ l.fn.text.items
      ++ flat_map
      (bug_line l.machine.context.parameters.units l.machine.configuration.state.memory.blocks)
      (enumerate_from first_letter l.machine.configuration.state.memory.bugs);
  names : l.name + length l.rest ≡ name_count;
}

abbrev pub decreases-loop-word : goal.decreases-loop-word
decreases-loop-word g l = length l.rest
