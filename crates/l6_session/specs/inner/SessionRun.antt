-- A session in its context.
use Rattle.l6_steps.specs.State.{RunContext}
use Rattle.l6_session.specs.SessionState.{SessionState}

-- the context of a run, and the session with it
pub record SessionRun : Type 0 where
  pub context : RunContext
  pub state : SessionState
