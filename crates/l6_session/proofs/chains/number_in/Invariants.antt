use Rattle.std.proofs.Common.{◌≡◌, ◌+◌, length}
use Rattle.l6_session.specs.SessionState.{number_in}
use Rattle.l6_session.proofs.chains.number_in.Given as goal

-- the number so far, with that among the chains that are left, is that among all
abbrev pub invariant-loop-first : goal.invariant-loop-first
invariant-loop-first l = record {
  numbers : l.number + length l.rest ≡ length l.chains + 1;
  left : l.number + number_in l.rest l.chain ≡ number_in l.chains l.chain + 1;
}

abbrev pub decreases-loop-first : goal.decreases-loop-first
decreases-loop-first l = length l.rest
