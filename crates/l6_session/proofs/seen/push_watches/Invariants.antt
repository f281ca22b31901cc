use Rattle.std.proofs.Common.{◌≡◌, ◌++◌, length}
use Rattle.l6_session.specs.Changes.{watch_lines}
use Rattle.l6_session.proofs.seen.push_watches.Given as goal

-- the text so far, with the lines of what is left, is that of all
abbrev pub invariant-loop-was : goal.invariant-loop-was
invariant-loop-was g l =
    l.text.items ++ watch_lines l.machine.configuration.state.memory l.befores l.watched
    ≡ l.fn.text.items
    ++ watch_lines l.machine.configuration.state.memory l.fn.befores l.fn.watched

abbrev pub decreases-loop-was : goal.decreases-loop-was
decreases-loop-was g l = length l.watched
