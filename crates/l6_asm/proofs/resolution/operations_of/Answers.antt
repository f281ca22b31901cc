use Rattle.std.proofs.Common.{◌≡◌, ◌∷◌, ◌++◌, [], sym, ap, ◌∙◌, Ok, rules}
use Rattle.std.proofs.lemmas.Result.{err_from_is_err_and}
use Rattle.std.specs.Vec.Iter.{into_iter_items}
use Rattle.l6_asm.specs.AssemblyFault.{assembly_fault}
use Rattle.l6_asm.specs.Resolution.{operation_of}
use Rattle.l6_asm.proofs.Makings.{taken_front, each_made-push, stops_at}
use Rattle.l6_asm.proofs.resolution.operations_of.Goals as goal

pub returns-in_err-operation : goal.returns-in_err-operation
returns-in_err-operation c =
    let p = err_from_is_err_and c.from_residual-in_err-operation.result
    c.from_residual-in_err-operation.ensures.1 in
    let it = c.into_iter-group-iterator in
    let front =
    taken_front it.result c.loop-group.yielded c.loop-group.group-iterator c.loop-group.yielded_by
    in
    let rest = into_iter_items c.next.new.self in
    let whole : c.args.groups.items ≡ c.loop-group.yielded ++ c.in-Some.group ∷ rest =
    sym it.ensures.into_iter_gives.0 ∙ front
    ∙ ap (λ ys. c.loop-group.yielded ++ ys) c.in-Some.ensures.steps.0 in
    rw (p.1, p.2)
    (stops_at (operation_of c.args.labels.now.entries) c.args.groups.items c.loop-group.yielded
    c.in-Some.group rest c.loop-group.operations.items (assembly_fault c.in_err-operation.field-0.0)
    whole
    c.loop-group.invariant c.in_err-operation.ensures)

pub loop-group-preserved : goal.loop-group-preserved
loop-group-preserved c =
    let pushed : c.push.new.self.items
    ≡ c.loop-group.operations.items ++ c.in_ok-operation.operation ∷ [] = search rules in
    each_made-push (operation_of c.args.labels.now.entries) c.loop-group.yielded c.in-Some.group
    c.loop-group.operations.items c.in_ok-operation.operation c.loop-group.invariant
    c.in_ok-operation.ensures
    ∙ ap Ok (sym pushed)
