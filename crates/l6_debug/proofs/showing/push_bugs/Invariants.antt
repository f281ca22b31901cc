use Rattle.std.proofs.Common.{◌≡◌, ◌+◌, ◌++◌, drop}
use Rattle.std.specs.List.{enumerate_from, flat_map}
use Rattle.l6_prog.specs.Numerals.{first_letter}
use Rattle.l6_debug.specs.Answer.{bug_line}
use Rattle.l6_debug.proofs.showing.push_bugs.Given as goal

-- the text so far, with the lines of the bugs that are left, is that of all bugs
abbrev pub invariant-loop-index : goal.invariant-loop-index
invariant-loop-index l =
    l.text.items ++ flat_map bug_line (enumerate_from (first_letter + l.index) (drop l.index l.bugs))
    ≡ l.fn.text.items ++ flat_map bug_line (enumerate_from first_letter l.bugs)
