use Rattle.std.proofs.Common.{◌≡◌, ◌++◌, length}
use Rattle.l6_session.specs.Help.{listed}
use Rattle.l6_session.proofs.help.push_listed.Given as goal

-- the text so far, with the commands that are left, is that of all
abbrev pub invariant-loop-one : goal.invariant-loop-one
invariant-loop-one l =
    l.text.items ++ listed l.rest ≡ l.fn.text.items ++ listed l.fn.verbs

abbrev pub decreases-loop-one : goal.decreases-loop-one
decreases-loop-one l = length l.rest
