-- A machine at a state of its run, by the state's number.
use Rattle.std.specs.Prelude.{◌≡◌, ℕ, ◌≤◌, true}
use Rattle.l6_store.specs.Rule.{Rule}
use Rattle.l6_steps.specs.Limits.{are_allowed}
use Rattle.l6_steps.specs.Numbering.{last_number}
use Rattle.l6_steps.specs.RunState.{RunState}
use Rattle.l6_steps.specs.State.{RunContext}
use Rattle.l6_history.specs.History.{run_state_at}

-- the context of a run, and the number of the state to which it has come
pub record NumberedMachine : Type 0 where
  pub context : RunContext
  pub number : ℕ

-- a machine is at the state of this number, which is none beyond the last
pub record IsAtState (rule : Rule) (run_state : RunState) (number : ℕ) : Type 0 where
  pub is : run_state ≡ run_state_at rule run_state.context number
  pub within : number ≤ last_number rule run_state.context
  pub allowed : are_allowed run_state.context.parameters.limits ≡ true
