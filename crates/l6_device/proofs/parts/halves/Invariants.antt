use Rattle.std.proofs.Common.{length}
use Rattle.l6_device.proofs.Separators.{Keeps}
use Rattle.l6_device.proofs.parts.halves.Given as goal

-- the lines before the rest are no separators
abbrev pub invariant-loop-rest : goal.invariant-loop-rest
invariant-loop-rest l = Keeps l.fn.word l.fn.text l.rest

abbrev pub decreases-loop-rest : goal.decreases-loop-rest
decreases-loop-rest l = length l.rest
