use Rattle.std.proofs.Common.{◌≡◌, ◌+◌, ◌++◌, length}
use Rattle.l6_session.specs.Saved.{given_tests}
use Rattle.l6_session.proofs.saved.push_tests.Given as goal

-- the commands so far, with those of the statements that are left, are all
abbrev pub invariant-loop-test : goal.invariant-loop-test
invariant-loop-test l = record {
  commands : l.commands.items ++ given_tests l.statement l.rest
      ≡ l.fn.commands.items ++ given_tests 0 l.tests;
  numbers : l.statement + length l.rest ≡ length l.tests;
}

abbrev pub decreases-loop-test : goal.decreases-loop-test
decreases-loop-test l = length l.rest
