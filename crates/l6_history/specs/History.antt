-- Histories: at which state of a run one is, and which other states are kept.
use Rattle.std.specs.Prelude.{ℕ, min, max, nat_le, List, [], ◌∷◌, if◌then◌else◌}
use Rattle.l6_store.specs.Rule.{Rule}
use Rattle.l6_steps.specs.Configuration.{configuration_at}
use Rattle.l6_steps.specs.Numbering.{last_number}
use Rattle.l6_steps.specs.RunState.{RunState}
use Rattle.l6_steps.specs.State.{RunContext}

-- the context of a run, the number of the state at which one is, and the numbers of the states that
-- are kept as checkpoints, the oldest first
pub record History : Type 0 where
  pub context : RunContext
  pub number : ℕ
  pub kept : List ℕ

-- where a machine is at the state of a number
abbrev pub run_state_at : Rule → RunContext → ℕ → RunState
run_state_at rule context number =
    record { context = context; configuration = configuration_at rule context number }

-- the number of a state, or of the last one where that comes first
abbrev pub number_to : Rule → RunContext → ℕ → ℕ
number_to rule context n = min n (last_number rule context)

-- the greatest of some numbers that is not above n, or 0, the start, where none is
abbrev pub if_up_to : ℕ → ℕ → ℕ
if_up_to n number = if nat_le number n then number else 0

abbrev pub greatest_up_to : ℕ → List ℕ → ℕ
greatest_up_to n [] = 0
greatest_up_to n (number ∷ numbers) = max (if_up_to n number) (greatest_up_to n numbers)

-- from which state one goes to that of the number n: on from where one is, or, where that is
-- further back, on from the nearest state that is kept or from the start
abbrev pub way_from : History → ℕ → ℕ
way_from old n = if nat_le old.number n then old.number else greatest_up_to n old.kept
