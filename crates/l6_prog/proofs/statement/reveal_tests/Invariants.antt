use Rattle.std.proofs.Common.{◌≡◌, true, take}
use Rattle.std.specs.List.{list_all}
use Rattle.l6_prog.specs.Values.{is_test}
use Rattle.l6_prog.proofs.statement.reveal_tests.Given as goal

-- each so far is a test
abbrev pub invariant-loop-test : goal.invariant-loop-test
invariant-loop-test l = list_all is_test (take l.test-index l.tests) ≡ true
