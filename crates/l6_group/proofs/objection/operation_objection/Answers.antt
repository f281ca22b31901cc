use Rattle.std.proofs.Common.{ap, ◌∙◌, is_some}
use Rattle.l6_group.specs.Element.{elements_of}
use Rattle.l6_group.specs.Operation.{operation_of}
use Rattle.l6_group.proofs.Exact.{operation_exact, told}
use Rattle.l6_group.proofs.objection.operation_objection.Goals as goal

pub returns-clause-exact : goal.returns-clause-exact
returns-clause-exact c =
    let columns = c.args.columns.now in
    told _ (operation_of columns)
    (ap is_some c.of_operation.ensures.reason ∙ operation_exact columns (elements_of columns))
