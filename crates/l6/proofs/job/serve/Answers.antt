use Rattle.std.proofs.Common.{ap, ◌∙◌}
use Rattle.std.proofs.lemmas.Result.{err_from_is_err_and}
use Rattle.l6_device.specs.JobParts.{commands_of, deck_of}
use Rattle.l6.proofs.Serving.{check_refused, debug_refused, explanation_refused, image_refused, load_refused, renewal_refused, run_refused}
use Rattle.l6.proofs.job.serve.Goals as goal

pub returns-in_err-write_deck_image-in-Asm-clause-done :
    goal.returns-in_err-write_deck_image-in-Asm-clause-done
returns-in_err-write_deck_image-in-Asm-clause-done g c =
    let p = err_from_is_err_and c.from_residual.result c.from_residual.ensures.1 in
    rw (p.1, p.2) (image_refused _ _ c.args.job.now _ _ _ _ c.in-Asm.is
    c.parts_of-parts.ensures.head c.in_err-write_deck_image-in-Asm.ensures.done)

pub returns-in_err-errors-in-Check-clause-done : goal.returns-in_err-errors-in-Check-clause-done
returns-in_err-errors-in-Check-clause-done g c =
    let p = err_from_is_err_and c.from_residual-in_err-errors-in-Check.result
    c.from_residual-in_err-errors-in-Check.ensures.1 in
    rw (p.1, p.2) (check_refused _ _ _ c.args.job.now _ _ _ _ c.in-Check.is
    c.parts_of-parts.ensures.head c.in_err-errors-in-Check.ensures.done)

pub returns-in_err-errors-in-Check-clause-retries :
    goal.returns-in_err-errors-in-Check-clause-retries
returns-in_err-errors-in-Check-clause-retries g c =
    let p = err_from_is_err_and c.from_residual-in_err-errors-in-Check.result
    c.from_residual-in_err-errors-in-Check.ensures.1 in
    rw (p.1, p.2) (c.in_err-errors-in-Check.ensures.retries)

pub returns-in_err-ending-in-Run-clause-done : goal.returns-in_err-ending-in-Run-clause-done
returns-in_err-ending-in-Run-clause-done g c =
    let p = err_from_is_err_and c.from_residual-in_err-ending-in-Run.result
    c.from_residual-in_err-ending-in-Run.ensures.1 in
    rw (p.1, p.2) (run_refused _ _ c.args.job.now _ _ _ _ _ c.in-Run.is
    c.parts_of-parts.ensures.head c.parts_of-parts.ensures.input
    c.in_err-ending-in-Run.ensures.done)

pub returns-in_err-explained-in-Explain-clause-done :
    goal.returns-in_err-explained-in-Explain-clause-done
returns-in_err-explained-in-Explain-clause-done g c =
    let p = err_from_is_err_and c.from_residual-in_err-explained-in-Explain.result
    c.from_residual-in_err-explained-in-Explain.ensures.1 in
    rw (p.1, p.2) (explanation_refused _ _ c.args.job.now _ _ _ _ _ c.in-Explain.is
    c.parts_of-parts.ensures.head c.parts_of-parts.ensures.input
    c.in_err-explained-in-Explain.ensures.done)

pub returns-in_err-explained-in-Explain-clause-retries :
    goal.returns-in_err-explained-in-Explain-clause-retries
returns-in_err-explained-in-Explain-clause-retries g c =
    let p = err_from_is_err_and c.from_residual-in_err-explained-in-Explain.result
    c.from_residual-in_err-explained-in-Explain.ensures.1 in
    rw (p.1, p.2) (c.in_err-explained-in-Explain.ensures.retries)

pub returns-in_err-ending-in-Load-clause-done : goal.returns-in_err-ending-in-Load-clause-done
returns-in_err-ending-in-Load-clause-done g c =
    let p = err_from_is_err_and c.from_residual-in_err-ending-in-Load.result
    c.from_residual-in_err-ending-in-Load.ensures.1 in
    rw (p.1, p.2) (load_refused _ _ c.args.job.now _ _ _ _ _ c.in-Load.is
    c.parts_of-parts.ensures.head c.parts_of-parts.ensures.input
    c.in_err-ending-in-Load.ensures.done)

pub returns-in_err-debug_deck-in-Debug-clause-done :
    goal.returns-in_err-debug_deck-in-Debug-clause-done
returns-in_err-debug_deck-in-Debug-clause-done g c =
    let p = err_from_is_err_and c.from_residual-in_err-debug_deck-in-Debug.result
    c.from_residual-in_err-debug_deck-in-Debug.ensures.1 in
    rw (p.1, p.2) (debug_refused _ _ c.args.job.now _ _ _ _ _ _ c.in-Debug.is
    (c.head_parts_of-session.ensures.deck ∙ ap deck_of c.parts_of-parts.ensures.head)
    c.parts_of-parts.ensures.input
    (c.head_parts_of-session.ensures.commands ∙ ap commands_of c.parts_of-parts.ensures.head)
    c.in_err-debug_deck-in-Debug.ensures.done)

pub returns-in_err-write_deck_image-in-Asm-clause-retries :
    goal.returns-in_err-write_deck_image-in-Asm-clause-retries
returns-in_err-write_deck_image-in-Asm-clause-retries g c =
    let p = err_from_is_err_and c.from_residual.result
    c.from_residual.ensures.1 in
    rw (p.1, p.2) (c.in_err-write_deck_image-in-Asm.ensures.retries)

pub returns-in_err-write_deck_listing-in-List-clause-retries :
    goal.returns-in_err-write_deck_listing-in-List-clause-retries
returns-in_err-write_deck_listing-in-List-clause-retries g c =
    let p = err_from_is_err_and c.from_residual-in_err-write_deck_listing-in-List.result
    c.from_residual-in_err-write_deck_listing-in-List.ensures.1 in
    rw (p.1, p.2) (c.in_err-write_deck_listing-in-List.ensures.retries)

pub returns-in_err-ending-in-Run-clause-retries :
    goal.returns-in_err-ending-in-Run-clause-retries
returns-in_err-ending-in-Run-clause-retries g c =
    let p = err_from_is_err_and c.from_residual-in_err-ending-in-Run.result
    c.from_residual-in_err-ending-in-Run.ensures.1 in
    rw (p.1, p.2) (c.in_err-ending-in-Run.ensures.retries)

pub returns-in_err-ending-in-Load-clause-retries :
    goal.returns-in_err-ending-in-Load-clause-retries
returns-in_err-ending-in-Load-clause-retries g c =
    let p = err_from_is_err_and c.from_residual-in_err-ending-in-Load.result
    c.from_residual-in_err-ending-in-Load.ensures.1 in
    rw (p.1, p.2) (c.in_err-ending-in-Load.ensures.retries)

pub returns-in_err-debug_deck-in-Debug-clause-retries :
    goal.returns-in_err-debug_deck-in-Debug-clause-retries
returns-in_err-debug_deck-in-Debug-clause-retries g c =
    let p = err_from_is_err_and c.from_residual-in_err-debug_deck-in-Debug.result
    c.from_residual-in_err-debug_deck-in-Debug.ensures.1 in
    rw (p.1, p.2) (c.in_err-debug_deck-in-Debug.ensures.retries)

pub returns-in_err-rewrite_image_text-in-Renew-clause-done :
    goal.returns-in_err-rewrite_image_text-in-Renew-clause-done
returns-in_err-rewrite_image_text-in-Renew-clause-done g c =
    let p = err_from_is_err_and c.from_residual-in_err-rewrite_image_text-in-Renew.result
    c.from_residual-in_err-rewrite_image_text-in-Renew.ensures.1 in
    rw (p.1, p.2) (renewal_refused _ _ c.args.job.now _ _ _ _ c.in-Renew.is
    c.parts_of-parts.ensures.head c.in_err-rewrite_image_text-in-Renew.ensures.done)

pub returns-in_err-rewrite_image_text-in-Renew-clause-retries :
    goal.returns-in_err-rewrite_image_text-in-Renew-clause-retries
returns-in_err-rewrite_image_text-in-Renew-clause-retries g c =
    let p = err_from_is_err_and c.from_residual-in_err-rewrite_image_text-in-Renew.result
    c.from_residual-in_err-rewrite_image_text-in-Renew.ensures.1 in
    rw (p.1, p.2) (c.in_err-rewrite_image_text-in-Renew.ensures.retries)
