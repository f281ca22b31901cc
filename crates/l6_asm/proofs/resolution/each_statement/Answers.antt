use Rattle.std.proofs.Common.{◌≡◌, ◌∷◌, ◌++◌, [], sym, ap, ◌∙◌, Ok, rules}
use Rattle.std.proofs.lemmas.Result.{err_from_is_err_and}
use Rattle.std.specs.Vec.Iter.{into_iter_items}
use Rattle.l6_asm.specs.AssemblyFault.{assembly_fault}
use Rattle.l6_asm.specs.Resolution.{statement_of}
use Rattle.l6_asm.proofs.Makings.{taken_front, each_made-push, stops_at}
use Rattle.l6_asm.proofs.resolution.each_statement.Goals as goal

pub returns-in_err-statement : goal.returns-in_err-statement
returns-in_err-statement c =
    let p = err_from_is_err_and c.from_residual-in_err-statement.result
    c.from_residual-in_err-statement.ensures.1 in
    let it = c.into_iter-one-iterator in
    let front =
    taken_front it.result c.loop-one.yielded c.loop-one.one-iterator c.loop-one.yielded_by in
    let rest = into_iter_items c.next.new.self in
    let whole : c.args.written.items ≡ c.loop-one.yielded ++ c.in-Some.one ∷ rest =
    sym it.ensures.into_iter_gives.0 ∙ front
    ∙ ap (λ ys. c.loop-one.yielded ++ ys) c.in-Some.ensures.steps.0 in
    rw (p.1, p.2)
    (stops_at (statement_of c.args.labels.now.entries) c.args.written.items c.loop-one.yielded
    c.in-Some.one rest c.loop-one.statements.items (assembly_fault c.in_err-statement.field-0.0)
    whole
    c.loop-one.invariant c.in_err-statement.ensures)

pub loop-one-preserved : goal.loop-one-preserved
loop-one-preserved c =
    let pushed : c.push.new.self.items
    ≡ c.loop-one.statements.items ++ c.in_ok-statement.statement ∷ [] = search rules in
    each_made-push (statement_of c.args.labels.now.entries) c.loop-one.yielded c.in-Some.one
    c.loop-one.statements.items c.in_ok-statement.statement c.loop-one.invariant
    c.in_ok-statement.ensures
    ∙ ap Ok (sym pushed)
