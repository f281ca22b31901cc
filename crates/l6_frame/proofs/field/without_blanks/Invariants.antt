use Rattle.std.proofs.Common.{◌≡◌, length}
use Rattle.l6_frame.specs.Frame.{after_blanks}
use Rattle.l6_frame.proofs.field.without_blanks.Given as goal

-- the blanks that are left out are some of those at the front
abbrev pub invariant-loop-first : goal.invariant-loop-first
invariant-loop-first l = after_blanks l.rest ≡ after_blanks l.bytes

abbrev pub decreases-loop-first : goal.decreases-loop-first
decreases-loop-first l = length l.rest
