use Rattle.std.proofs.Common.{◌≡◌, ◌++◌}
use Rattle.std.specs.List.{flat_map}
use Rattle.l6_draw.specs.Drawing.{bug_line}
use Rattle.l6_draw.specs.Reach.{letters, letters_from}
use Rattle.l6_draw.proofs.drawings.push_bugs.Given as goal

-- the text so far, with the lines of the bugs left, is that with the lines of all bugs
abbrev pub invariant-loop-letter : goal.invariant-loop-letter
invariant-loop-letter g l =
    l.text.items ++ flat_map (bug_line l.machine.configuration.state.memory) (letters_from l.letter)
    ≡ l.fn.text.items ++ flat_map (bug_line l.machine.configuration.state.memory) letters
