-- What is done so many times, and breakpoints that are put back.
use Rattle.std.proofs.Common.{◌≡◌, ℕ, suc, ◌+◌, List, refl, sym, ap, ◌∙◌, arith}
use Rattle.std.specs.Prelude.{slice_index_or, slice_set}
use Rattle.std.proofs.lemmas.List.{set-get_or, set-set}
use Rattle.l6_steps.specs.State.{RunContext}
use Rattle.l6_session.specs.SessionState.{SessionState, repeated}

repeated_more : (n : ℕ) (leads : SessionState → SessionState) (old : SessionState) →
    repeated (suc n) leads old ≡ leads (repeated n leads old)
unfolding repeated
repeated_more n leads old = refl

pub repeated_none : (leads : SessionState → SessionState) (old : SessionState) →
    repeated 0 leads old ≡ old
unfolding repeated
repeated_none leads old = refl

-- once more
pub repeats : (leads : RunContext → SessionState → SessionState) (now context : RunContext)
    (new state old : SessionState) (n : ℕ) → now ≡ context → new ≡ leads now state →
    state ≡ repeated n (leads context) old → new ≡ repeated (n + 1) (leads context) old
repeats leads now context new state old n same is before =
    let next : suc n ≡ n + 1 = omega arith in
    is ∙ ap (λ c. leads c state) same ∙ ap (leads context) before
    ∙ sym (repeated_more n (leads context) old)
    ∙ ap (λ k. repeated k (leads context) old) next

-- what is set for a while, and then is as it was
pub restored : {A : Type 0} (list : List A) (statement : ℕ) (given was other : A) →
    was ≡ slice_index_or list statement other →
    slice_set (slice_set list statement given) statement was ≡ list
restored list statement given was other is =
    ap (λ b. slice_set (slice_set list statement given) statement b) is
    ∙ set-set list statement given (slice_index_or list statement other)
    ∙ set-get_or list statement other
