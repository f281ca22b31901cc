use Rattle.std.proofs.Common.{◌≡◌, ◌++◌, length}
use Rattle.std.specs.Prelude.{map}
use Rattle.l6_session.specs.Saved.{watched}
use Rattle.l6_session.proofs.saved.push_watched.Given as goal

-- the commands so far, with those of what is left, are all
abbrev pub invariant-loop-one : goal.invariant-loop-one
invariant-loop-one l =
    l.commands.items ++ map watched l.rest ≡ l.fn.commands.items ++ map watched l.watched

abbrev pub decreases-loop-one : goal.decreases-loop-one
decreases-loop-one l = length l.rest
