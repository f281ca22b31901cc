use Rattle.std.proofs.Common.{◌≡◌, ℕ, ◌-◌, ◌<◌, None, length}
use Rattle.std.specs.Prelude.{slice_index_or}
use Rattle.l6_history.proofs.stop.clear_tests.Given as goal

-- the statements so far have no test
abbrev pub invariant-loop-index : goal.invariant-loop-index
invariant-loop-index l = record {
  length : length l.tests ≡ length l.fn.tests;
  none : (k : ℕ) → k < l.index → slice_index_or l.tests k None ≡ None;
}

abbrev pub decreases-loop-index : goal.decreases-loop-index
decreases-loop-index l = length l.tests - l.index
