use Rattle.std.proofs.Common.{◌≡◌, take}
use Rattle.l6_check.specs.inner.Marks.{marked}
use Rattle.l6_check.proofs.targets.mark_all.Given as goal

-- the numbers so far are marked
abbrev pub invariant-loop-number : goal.invariant-loop-number
invariant-loop-number l = l.marks ≡ marked l.fn.marks (take l.number-index l.numbers)
