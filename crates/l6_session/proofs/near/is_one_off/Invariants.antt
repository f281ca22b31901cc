use Rattle.std.proofs.Common.{◌≡◌, length}
use Rattle.l6_session.specs.Near.{is_one_off}
use Rattle.l6_session.proofs.near.is_one_off.Given as goal

-- what is left differs as the words do
abbrev pub invariant-loop-a : goal.invariant-loop-a
invariant-loop-a l = is_one_off l.one l.other ≡ is_one_off l.fn.one l.fn.other

abbrev pub decreases-loop-a : goal.decreases-loop-a
decreases-loop-a l = length l.one
