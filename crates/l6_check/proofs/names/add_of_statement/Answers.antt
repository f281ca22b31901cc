use Rattle.std.proofs.Common.{◌≤◌, ◌*◌, ◌++◌, length, subst, arith, rules}
use Rattle.std.specs.List.{flat_map}
use Rattle.l6_check.specs.Missing.{missing_in_exit, missing_in_group}
use Rattle.l6_check.specs.inner.Names.{AreAdded, most_names}
use Rattle.l6_check.proofs.Keeping.{on_ok}
use Rattle.l6_check.proofs.MissingSteps.{both_added}
use Rattle.l6_check.proofs.names.add_of_statement.Goals as goal

pub returns : goal.returns
returns c =
    let given = c.args.given.now.entries in
    let old = c.args.missing.now in
    let new = c.add_of_exit.new.missing in
    let groups = missing_in_group given in
    let leaving = c.args.statement.now.exit in
    let few : length c.operations.result.now ≤ 63 = search rules in
    on_ok c.add_of_exit.result c.add_of_exit.ensures (λ second.
    subst (λ os. AreAdded given (flat_map groups os ++ missing_in_exit given leaving) most_names old new)
    c.operations.ensures
    (subst (λ e. AreAdded given (flat_map groups c.operations.result.now ++ missing_in_exit given e) most_names old new)
    c.exit.ensures
    (both_added given (flat_map groups c.operations.result.now) (missing_in_exit given c.exit.result.now)
    (2 * length c.operations.result.now) 1 most_names old c.add_of_groups.new.missing new
    (omega (arith, few)) c.in_ok-add_of_groups.ensures second)))
