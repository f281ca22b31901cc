-- That `go` goes to where a history stops, with breakpoints alone.
use Rattle.std.proofs.Common.{◌≡◌, ℕ, zero, suc, Bool, true, false, Option, Some, None, List, refl, ap, ◌∙◌, if◌then◌else◌}
use Rattle.std.specs.Prelude.{◌&&◌, ◌||◌, nat_lt, length, replicate, slice_index_or, unwrap_or}
use Rattle.l6_prog.specs.declared.condition.Test.{Test}
use Rattle.l6_store.specs.Least.{least, or_else}
use Rattle.l6_store.specs.Rule.{Rule}
use Rattle.l6_steps.specs.Configuration.{state_at}
use Rattle.l6_steps.specs.Numbering.{last_number}
use Rattle.l6_steps.specs.State.{RunContext}
use Rattle.l6_history.specs.Seeking.{next_stop, stops_forward}
use Rattle.l6_history.specs.Stop.{is_at_breakpoint, is_met}
use Rattle.l6_debug.specs.DebuggerState.{DebuggerState, next_breakpoint}
use Rattle.l6_debug.specs.inner.DebuggerRun.{stop_at}

-- tests that say the same have the same least number
least_alike : (bound : ℕ) (one other : ℕ → Bool) → ((k : ℕ) → one k ≡ other k) →
    least bound one ≡ least bound other
unfolding least
least_alike zero one other same = refl
least_alike (suc bound) one other same =
    ap (λ answer. or_else answer (if one bound then Some bound else None))
    (least_alike bound one other same)
    ∙ ap (λ b. or_else (least bound other) (if b then Some bound else None)) (same bound)

or_nothing : (b : Bool) → (((b && true) || false) || false) ≡ b
or_nothing true = refl
or_nothing false = refl

no_test : (n i : ℕ) → slice_index_or (replicate {A = Option Test} n None) i None ≡ None
no_test zero i = refl
no_test (suc n) zero = refl
no_test (suc n) (suc i) = no_test n i

stops_at_breakpoint : (rule : Rule) (context : RunContext) (breakpoints : List Bool) (k : ℕ) →
    stops_forward rule context (stop_at breakpoints) k
    ≡ is_at_breakpoint breakpoints (state_at rule context k)
unfolding stops_forward
stops_at_breakpoint rule context breakpoints k =
    let state = state_at rule context k in
    ap (λ test. ((is_at_breakpoint breakpoints state && is_met state.memory test) || false) || false)
    (no_test (length breakpoints) state.at.statement)
    ∙ or_nothing (is_at_breakpoint breakpoints state)

pub by_breakpoints : (rule : Rule) (context : RunContext) (breakpoints : List Bool) (number : ℕ) →
    next_stop rule context (stop_at breakpoints) number
    ≡ next_breakpoint rule context (record { number = number; breakpoints = breakpoints })
unfolding next_stop next_breakpoint
by_breakpoints rule context breakpoints number =
    ap (λ answer. unwrap_or answer (last_number rule context))
    (least_alike (suc (last_number rule context))
    (λ n. nat_lt number n && stops_forward rule context (stop_at breakpoints) n)
    (λ n. nat_lt number n && is_at_breakpoint breakpoints (state_at rule context n))
    (λ k. ap (λ b. nat_lt number k && b) (stops_at_breakpoint rule context breakpoints k)))

-- a session by its parts
abbrev pub debugger_state_of : ℕ → List Bool → DebuggerState
debugger_state_of number breakpoints = record { number = number; breakpoints = breakpoints }
