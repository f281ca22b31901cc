-- To which state one goes that goes on, or back, to where one stops.
use Rattle.std.specs.Prelude.{ℕ, zero, suc, ◌+◌, ◌-◌, nat_lt, Bool, ◌&&◌, ◌||◌, Option, Some, None, unwrap_or, if◌then◌else◌}
use Rattle.l6_store.specs.Least.{least}
use Rattle.l6_store.specs.Rule.{Rule}
use Rattle.l6_steps.specs.Configuration.{state_at}
use Rattle.l6_steps.specs.Numbering.{last_number}
use Rattle.l6_steps.specs.State.{RunContext}
use Rattle.l6_history.specs.Stop.{Stop, changes_between, stops_at}

-- one stops at the state of a number: going forward one comes from the state before it, and going
-- back from the state after it
unfoldable pub stops_forward : Rule → RunContext → Stop → ℕ → Bool
stops_forward rule context stop n =
    stops_at stop (state_at rule context n)
    || changes_between stop (state_at rule context (n - 1)) (state_at rule context n)

unfoldable pub stops_back : Rule → RunContext → Stop → ℕ → Bool
stops_back rule context stop n =
    stops_at stop (state_at rule context n)
    || changes_between stop (state_at rule context n) (state_at rule context (n + 1))

-- the number of the first later state at which one stops, or of the last state
unfoldable pub next_stop : Rule → RunContext → Stop → ℕ → ℕ
next_stop rule context stop number =
    unwrap_or
    (least (suc (last_number rule context))
    (λ n. nat_lt number n && stops_forward rule context stop n))
    (last_number rule context)

-- the greatest number below a bound that passes a test, if there is one
unfoldable pub greatest : ℕ → (ℕ → Bool) → Option ℕ
greatest zero test = None
greatest (suc bound) test = if test bound then Some bound else greatest bound test

-- the number of the latest earlier state at which one stops, or of the start
unfoldable pub previous_stop : Rule → RunContext → Stop → ℕ → ℕ
previous_stop rule context stop number =
    unwrap_or (greatest number (stops_back rule context stop)) 0
