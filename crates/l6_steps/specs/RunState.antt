-- Where a machine is.
use Rattle.std.specs.Prelude.{◌≡◌}
use Rattle.l6_store.specs.Rule.{Rule}
use Rattle.l6_steps.specs.State.{RunContext}
use Rattle.l6_steps.specs.Configuration.{Configuration, first_configuration}
use Rattle.l6_steps.specs.Run.{IsReached}

-- the context in which its run takes place, and the configuration to which the run under its
-- store's rule has come
pub record RunState : Type 0 where
  pub context : RunContext
  pub configuration : Configuration

-- the machine is at the start of the run of a context under its store's rule: a state that the run
-- reaches, too
pub record IsAtStart (rule : Rule) (context : RunContext) (machine : RunState) : Type 0 where
  pub in_context : machine.context ≡ context
  pub first : machine.configuration ≡ first_configuration rule machine.context
  pub reached : IsReached machine.context machine.configuration.state
