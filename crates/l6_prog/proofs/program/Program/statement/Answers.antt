-- The statement that is read is the program's of that number, of which the laws of programs speak.
use Rattle.std.proofs.Common.{◌≡◌, ◌∙◌, List, length, is_ok, true, subst, sym}
use Rattle.std.specs.List.{list_all}
use Rattle.l6_prog.specs.Statement.{Parts}
use Rattle.l6_prog.specs.Target.{is_below, targets_of}
use Rattle.l6_prog.specs.Program.{has_its_tests, program_of}
use Rattle.l6_prog.specs.Values.{has_values}
use Rattle.l6_prog.proofs.Programs.{read_at, tests_at, values_at, targets_at, at_most, last_is_plain}
use Rattle.l6_prog.proofs.program.Program.statement.Goals as goal

pub returns-clause-count : goal.returns-clause-count
returns-clause-count c =
    at_most c.args.self.now
    (subst (λ (p : List Parts). is_ok (program_of p) ≡ true) c.self.view_is c.self.invariant.0)

pub returns-clause-targets : goal.returns-clause-targets
returns-clause-targets c =
    let is
    = subst (λ (p : List Parts). is_ok (program_of p) ≡ true) c.self.view_is c.self.invariant.0 in
    let here = read_at c.self.inside.statements.items c.args.self.now c.from.result c.args.number
    c.index.result.now c.self.view_is c.from.ensures c.index.ensures in
    subst (λ (s : Parts). list_all (is_below (length c.args.self.now)) (targets_of s) ≡ true)
    (sym here) (targets_at c.args.self.now c.args.number c.index.result.now is c.requires)

pub returns-clause-tests : goal.returns-clause-tests
returns-clause-tests c =
    let is
    = subst (λ (p : List Parts). is_ok (program_of p) ≡ true) c.self.view_is c.self.invariant.0 in
    let here = read_at c.self.inside.statements.items c.args.self.now c.from.result c.args.number
    c.index.result.now c.self.view_is c.from.ensures c.index.ensures in
    subst (λ (s : Parts). has_its_tests s ≡ true) (sym here)
    (tests_at c.args.self.now c.args.number c.index.result.now is c.requires)

pub returns-clause-last : goal.returns-clause-last
returns-clause-last c count =
    let is
    = subst (λ (p : List Parts). is_ok (program_of p) ≡ true) c.self.view_is c.self.invariant.0 in
    let here = read_at c.self.inside.statements.items c.args.self.now c.from.result c.args.number
    c.index.result.now c.self.view_is c.from.ensures c.index.ensures in
    here ∙ last_is_plain c.args.self.now c.args.number c.index.result.now is count

pub returns-clause-values : goal.returns-clause-values
returns-clause-values c =
    let values
    = subst (λ (p : List Parts). list_all has_values p ≡ true) c.self.view_is c.self.invariant.1 in
    let here = read_at c.self.inside.statements.items c.args.self.now c.from.result c.args.number
    c.index.result.now c.self.view_is c.from.ensures c.index.ensures in
    subst (λ (s : Parts). has_values s ≡ true) (sym here)
    (values_at c.args.self.now c.args.number c.index.result.now values c.requires)
