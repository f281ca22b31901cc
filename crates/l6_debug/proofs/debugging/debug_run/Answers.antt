use Rattle.std.proofs.lemmas.Result.{err_from_is_err_and}
use Rattle.l6_debug.proofs.Going.{no_answer}
use Rattle.l6_debug.proofs.debugging.debug_run.Goals as goal

-- without memory for a session no answer went out
pub returns-in_err-debugger-clause-answers : goal.returns-in_err-debugger-clause-answers
returns-in_err-debugger-clause-answers g c =
    let p = err_from_is_err_and c.from_residual.result c.from_residual.ensures.1 in
    rw (p.1, p.2) (no_answer _ _)
