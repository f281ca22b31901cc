-- The number of the last state of a run under a rule.
use Rattle.std.specs.Prelude.{ℕ, suc, unwrap_or}
use Rattle.l6_store.specs.Least.{least}
use Rattle.l6_store.specs.Rule.{Rule}
use Rattle.l6_steps.specs.Configuration.{state_at}
use Rattle.l6_steps.specs.State.{RunContext, is_last}

-- states are numbered from 0, the start, on. A step that traps leads to a state, too, which has the
-- count of the state before it. The run ends in the first state that is last, and no run has a state
-- of a greater number than it may count steps.
unfoldable pub last_number : Rule → RunContext → ℕ
last_number rule context =
    unwrap_or (least (suc context.parameters.limits.steps)
    (λ n. is_last context (state_at rule context n))) 0
