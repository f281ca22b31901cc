-- What one seeks in a run, and how far seeking has come.
use Rattle.std.specs.Prelude.{◌≡◌, ℕ, suc, ◌+◌, ◌-◌, ◌<◌, ◌≤◌, nat_lt, Bool, true, false, ◌&&◌, ◌||◌, Option, Some, None, unwrap_or, if◌then◌else◌}
use Rattle.l6_store.specs.Least.{least}
use Rattle.l6_store.specs.Rule.{Rule}
use Rattle.l6_steps.specs.Configuration.{state_at}
use Rattle.l6_steps.specs.Numbering.{last_number}
use Rattle.l6_steps.specs.State.{RunContext, State}
use Rattle.l6_history.specs.Seeking.{greatest, next_stop, previous_stop}
use Rattle.l6_history.specs.Stop.{Stop, changes_between, stops_at}
use Rattle.l6_history.specs.declared.seeking.Direction.{Direction}
use Rattle.l6_history.specs.declared.seeking.Direction.TheVariants.{Forward, Back}

-- one goes to states, wherever one comes from, and to those that differ from the state from which one comes
pub record Goal : Type 0 where
  pub at : State → Bool
  pub between : State → State → Bool

-- what differs is what states read as: a state does not differ from itself, and what differs from one
-- differs from each that is like it
pub record ComparesValues (goal : Goal) : Type 0 where
  pub unchanged : (state : State) → goal.between state state ≡ false
  pub alike : (one other there : State) → goal.between one other ≡ false →
      goal.between other there ≡ goal.between one there

-- one goes to where one stops
abbrev pub goal_of : Stop → Goal
goal_of stop = record { at = stops_at stop; between = changes_between stop }

-- one goes to the state of a number: forward one comes from the state before it, and back from the state
-- after it
unfoldable pub is_met_forward : Rule → RunContext → Goal → ℕ → Bool
is_met_forward rule context goal n =
    goal.at (state_at rule context n)
    || goal.between (state_at rule context (n - 1)) (state_at rule context n)

unfoldable pub is_met_back : Rule → RunContext → Goal → ℕ → Bool
is_met_back rule context goal n =
    goal.at (state_at rule context n)
    || goal.between (state_at rule context n) (state_at rule context (n + 1))

-- the number of the first later state to which one goes, or of the last state
unfoldable pub next_met : Rule → RunContext → Goal → ℕ → ℕ
next_met rule context goal number =
    unwrap_or
    (least (suc (last_number rule context))
    (λ n. nat_lt number n && is_met_forward rule context goal n))
    (last_number rule context)

-- the number of the latest earlier one, or of the start
unfoldable pub previous_met : Rule → RunContext → Goal → ℕ → ℕ
previous_met rule context goal number =
    unwrap_or (greatest number (is_met_back rule context goal)) 0

-- the number of the nearest one in a direction, or of the last state or the start
abbrev pub met_to : Rule → RunContext → Goal → Direction → ℕ → ℕ
met_to rule context goal Forward number = next_met rule context goal number
met_to rule context goal Back number = previous_met rule context goal number

-- the number of the nearest state in a direction at which one stops, or of the last state or the start
abbrev pub stop_to : Rule → RunContext → Stop → Direction → ℕ → ℕ
stop_to rule context stop Forward number = next_stop rule context stop number
stop_to rule context stop Back number = previous_stop rule context stop number

-- no number after one, up to another, passes a test
pub record NoneAfter (test : ℕ → Bool) (from number : ℕ) : Type 0 where
  pub on : from ≤ number
  pub none : (k : ℕ) → from < k → k ≤ number → test k ≡ false

-- the first number after one that passes a test, up to the last, or the last
pub record ComesTo (test : ℕ → Bool) (from last number : ℕ) : Type 0 where
  pub on : from ≤ number
  pub within : number ≤ last
  pub none : (k : ℕ) → from < k → k < number → test k ≡ false
  pub stops : number < last → (from < number) × (test number ≡ true)

-- no number from one on, below another, passes a test
abbrev pub NoneIn : (ℕ → Bool) → ℕ → ℕ → Type 0
NoneIn test begin end = (k : ℕ) → begin ≤ k → k < end → test k ≡ false

-- the last number in a stretch that passes a test, or that there is none
pub record IsLast (test : ℕ → Bool) (begin end n : ℕ) : Type 0 where
  pub begins : begin ≤ n
  pub ends : n < end
  pub passes : test n ≡ true
  pub none : NoneIn test (n + 1) end

abbrev pub IsLastIn : (ℕ → Bool) → ℕ → ℕ → Option ℕ → Type 0
IsLastIn test begin end None = NoneIn test begin end
IsLastIn test begin end (Some n) = IsLast test begin end n

-- an answer that a further number may replace
abbrev pub later_of : Bool → ℕ → Option ℕ → Option ℕ
later_of passes number last = if passes then Some number else last
