use Rattle.std.proofs.Common.{ap, ◌∙◌, is_some}
use Rattle.l6_group.specs.Element.{elements_of}
use Rattle.l6_group.specs.Test.{test_of}
use Rattle.l6_group.proofs.Exact.{test_exact, told}
use Rattle.l6_group.proofs.objection.test_objection.Goals as goal

pub returns-clause-exact : goal.returns-clause-exact
returns-clause-exact c =
    let columns = c.args.columns.now in
    told _ (test_of columns)
    (ap is_some c.of_test.ensures.reason ∙ test_exact columns (elements_of columns))
