use Rattle.std.proofs.Common.{◌≡◌, map}
use Rattle.l6_prog.specs.declared.condition.Test.{Test}
use Rattle.l6_card.specs.declared.cards.Placed.{Placed}
use Rattle.l6_asm.proofs.resolution.tests_of.Given as goal

-- the tests of the groups so far
abbrev pub invariant-loop-group : goal.invariant-loop-group
invariant-loop-group l = l.tests.items ≡ map (λ (group : Placed Test). group.reading) l.yielded
