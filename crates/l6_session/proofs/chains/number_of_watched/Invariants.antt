use Rattle.std.proofs.Common.{◌≡◌, ◌+◌, length}
use Rattle.l6_session.specs.SessionState.{number_of_watched}
use Rattle.l6_session.proofs.chains.number_of_watched.Given as goal

-- the number so far, with that among what is left, is that among all
abbrev pub invariant-loop-first : goal.invariant-loop-first
invariant-loop-first l = record {
  numbers : l.rank + length l.rest ≡ length l.watched + 1;
  left : l.rank + number_of_watched l.rest l.wanted ≡ number_of_watched l.watched l.wanted + 1;
}

abbrev pub decreases-loop-first : goal.decreases-loop-first
decreases-loop-first l = length l.rest
