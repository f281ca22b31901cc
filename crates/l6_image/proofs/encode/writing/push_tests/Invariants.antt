use Rattle.std.proofs.Common.{◌≡◌, ◌++◌, take}
use Rattle.std.specs.List.{flat_map}
use Rattle.l6_image.specs.Image.{test_words}
use Rattle.l6_image.proofs.encode.writing.push_tests.Given as goal

-- the words of the tests so far are written
abbrev pub invariant-loop-test : goal.invariant-loop-test
invariant-loop-test l =
    l.words.items
    ≡ l.fn.words.items ++ flat_map (test_words l.version) (take l.test-index l.tests)
