use Rattle.std.proofs.Common.{◌≡◌, ◌++◌, length}
use Rattle.std.specs.List.{flat_map}
use Rattle.l6_session.specs.Saved.{saved_line}
use Rattle.l6_session.proofs.saved.push_lines.Given as goal

-- the text so far, with the lines of the commands that are left, is that of all
abbrev pub invariant-loop-command : goal.invariant-loop-command
invariant-loop-command l =
    l.text.items ++ flat_map (saved_line l.names) l.rest
    ≡ l.fn.text.items ++ flat_map (saved_line l.names) l.commands

abbrev pub decreases-loop-command : goal.decreases-loop-command
decreases-loop-command l = length l.rest
