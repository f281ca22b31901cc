use Rattle.std.proofs.Common.{◌∙◌}
use Rattle.std.proofs.lemmas.List.{length-set}
use Rattle.std.specs.Prelude.{None}
use Rattle.l6_history.proofs.ClearedTests.{forgets, forgotten}
use Rattle.l6_history.proofs.stop.clear_tests.Goals as goal

-- no statement has a test
pub returns : goal.returns
returns c =
    forgotten c.loop-index.tests c.loop-index.index _ c.loop-index.invariant.length
    c.loop-index-test.false c.loop-index.invariant.none

pub loop-index-preserved : goal.loop-index-preserved
loop-index-preserved c = record {
  length = length-set c.loop-index.tests c.loop-index.index None ∙ c.loop-index.invariant.length;
  none = forgets c.loop-index.tests c.loop-index.index c.loop-index-test.true c.loop-index.invariant.none;
}
