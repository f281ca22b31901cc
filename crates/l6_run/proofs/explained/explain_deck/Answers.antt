use Rattle.std.proofs.Common.{List, ℕ, arith, sym, subst}
use Rattle.std.proofs.lemmas.Result.{err_from_is_err_and}
use Rattle.l6_run.specs.Explains.{Explains}
use Rattle.l6_run.specs.Prints.{RefusesDeck}
use Rattle.l6_run.specs.declared.explained.Explained.{Explained}
use Rattle.l6_run.proofs.Servings.{front_served}
use Rattle.l6_run.proofs.explained.explain_deck.Goals as goal

pub returns-in_err-write_text-clause-done : goal.returns-in_err-write_text-clause-done
returns-in_err-write_text-clause-done g c =
    let p = err_from_is_err_and c.from_residual-in_err-write_text.result
    c.from_residual-in_err-write_text.ensures.1 in
    let answers = Explains c.args.options c.args.deck.now c.args.input.now in
    let text = c.as_slice.result.now in
    let said : answers c.in_ok-explained.explained text =
    subst (λ (l : List ℕ). answers c.in_ok-explained.explained l) (sym c.as_slice.ensures.value)
    c.in_ok-explained.ensures.explains in
    rw (p.1, p.2) (front_served Explained answers (RefusesDeck c.args.deck.now c.args.input.now)
    c.in_ok-explained.explained text (g.W.Sink.taken c.args.writer.now)
    (g.W.Sink.taken c.write_text.new.writer) c.in_err-write_text.field-0.0
    (omega (arith, c.as_slice.ensures.len)) said c.in_err-write_text.ensures.err)
