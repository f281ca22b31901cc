-- Where the first of what is watched is watched no longer, as often as something is, nothing is.
use Rattle.std.proofs.Common.{◌≡◌, ◌≤◌, ℕ, zero, suc, ◌+◌, List, [], ◌∷◌, length, drop, refl, sym, ap, ◌∙◌, arith}
use Rattle.std.proofs.lemmas.Grind.{common_steps}
use Rattle.std.proofs.lemmas.List.{drop_all}
use Rattle.l6_history.specs.declared.watched.Watched.{Watched}
use Rattle.l6_session.specs.SessionState.{SessionState, changed, one_less}
use Rattle.l6_session.specs.declared.command.Setting.TheVariants.{Unwatch}
use Rattle.l6_session.specs.inner.SessionRun.{SessionRun}
use Rattle.l6_steps.specs.State.{RunContext}
use Rattle.l6_dap.specs.Watches.{watching}

one_less_first : {A : Type 0} (all : List A) → one_less all 1 ≡ drop 1 all
one_less_first [] = refl
one_less_first (first ∷ others) = grind (arith, common_steps)

dropped_one : {A : Type 0} (xs : List A) (i : ℕ) → drop 1 (drop i xs) ≡ drop (i + 1) xs
dropped_one [] zero = refl
dropped_one [] (suc i) = let after : suc (i + 1) ≡ suc i + 1 = omega arith in ap (λ n. drop n []) after
dropped_one (x ∷ xs) zero = refl
dropped_one (x ∷ xs) (suc i) =
    let after : suc (i + 1) ≡ suc i + 1 = omega arith in
    dropped_one xs i ∙ ap (λ n. drop n (x ∷ xs)) after

run_of : RunContext → SessionState → SessionRun
run_of context state = record { context = context; state = state }

-- one less
pub unwatched_one : (old session new : SessionRun) (i : ℕ) →
    session ≡ watching (drop i old.state.stop.watched) old → new.context ≡ session.context →
    new.state ≡ changed session.state (Unwatch 1) → new ≡ watching (drop (i + 1) old.state.stop.watched) old
unfolding run_of
unwatched_one old session new i is context state =
    let watched = old.state.stop.watched in
    ap (λ (it : RunContext). run_of it new.state) context
    ∙ ap (λ (it : SessionState). run_of session.context it) state
    ∙ ap (λ (it : SessionRun). run_of it.context (changed it.state (Unwatch 1))) is
    ∙ ap (λ (it : List Watched). watching it old) (one_less_first (drop i watched) ∙ dropped_one watched i)

-- and none
pub unwatched_all : (old session : SessionRun) (i : ℕ) (all : List Watched) →
    session ≡ watching (drop i old.state.stop.watched) old → all ≡ old.state.stop.watched → length all ≤ i →
    session ≡ watching [] old
unwatched_all old session i all is same within =
    is ∙ ap (λ (it : List Watched). watching it old)
    (ap (λ (it : List Watched). drop i it) (sym same) ∙ drop_all i all within)
