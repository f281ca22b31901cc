use Rattle.std.proofs.Common.{◌≡◌, length}
use Rattle.l6_session.specs.SessionState.{is_same}
use Rattle.l6_session.proofs.chains.is_same.Given as goal

-- what is left is the same as the chains are
abbrev pub invariant-loop-a : goal.invariant-loop-a
invariant-loop-a l = is_same l.one l.other ≡ is_same l.fn.one l.fn.other

abbrev pub decreases-loop-a : goal.decreases-loop-a
decreases-loop-a l = length l.one
