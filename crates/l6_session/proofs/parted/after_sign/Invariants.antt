use Rattle.std.proofs.Common.{◌≡◌, length}
use Rattle.l6_session.specs.Parted.{after_sign}
use Rattle.l6_session.proofs.parted.after_sign.Given as goal

-- the first sign of what is left is that of the word
abbrev pub invariant-loop-first : goal.invariant-loop-first
invariant-loop-first l = after_sign l.sign l.rest ≡ after_sign l.sign l.fn.word

abbrev pub decreases-loop-first : goal.decreases-loop-first
decreases-loop-first l = length l.rest
