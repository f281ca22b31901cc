use Rattle.std.proofs.Common.{List, ℕ, arith, sym, subst}
use Rattle.std.proofs.lemmas.Result.{err_from_is_err_and}
use Rattle.l6_machine.specs.declared.ending.Ending.{Ending}
use Rattle.l6_run.specs.Prints.{PrintsLoaded, RefusesImage}
use Rattle.l6_run.proofs.Servings.{front_served}
use Rattle.l6_run.proofs.loaded.run_image_text.Goals as goal

pub returns-in_err-write_text-clause-done : goal.returns-in_err-write_text-clause-done
returns-in_err-write_text-clause-done g c =
    let p = err_from_is_err_and c.from_residual-in_err-write_text.result
    c.from_residual-in_err-write_text.ensures.1 in
    let answers = PrintsLoaded c.args.options c.args.image.now c.args.input.now in
    let text = c.as_slice.result.now in
    let printed : answers c.in_ok-ending.ending text =
    subst (λ (l : List ℕ). answers c.in_ok-ending.ending l) (sym c.as_slice.ensures.value)
    c.in_ok-ending.ensures.prints in
    rw (p.1, p.2) (front_served Ending answers (RefusesImage c.args.image.now c.args.input.now)
    c.in_ok-ending.ending text (g.W.Sink.taken c.args.writer.now)
    (g.W.Sink.taken c.write_text.new.writer) c.in_err-write_text.field-0.0
    (omega (arith, c.as_slice.ensures.len)) printed c.in_err-write_text.ensures.err)
