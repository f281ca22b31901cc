use Rattle.std.proofs.Common.{◌≡◌, ◌++◌, length}
use Rattle.std.specs.List.{flat_map}
use Rattle.l6_word.specs.Lines.{lines_of}
use Rattle.l6_session.specs.Changes.{printed_line}
use Rattle.l6_session.proofs.printed.push_lines.Given as goal

-- the text so far, with the lines that are left, is that of all
abbrev pub invariant-loop-line : goal.invariant-loop-line
invariant-loop-line l =
    l.text.items ++ flat_map printed_line (lines_of l.rest)
    ≡ l.fn.text.items ++ flat_map printed_line (lines_of l.characters)

abbrev pub decreases-loop-line : goal.decreases-loop-line
decreases-loop-line l = length l.rest
