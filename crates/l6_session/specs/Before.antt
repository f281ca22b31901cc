-- What a session was like before a command.
use Rattle.std.specs.Prelude.{length}
use Rattle.l6_store.specs.Rule.{Rule}
use Rattle.l6_steps.specs.State.{RunContext}
use Rattle.l6_session.specs.SessionState.{SessionState, depth_at}
use Rattle.l6_session.specs.declared.before.Before.{Before}

-- the number of its state, for how many returns calls waited, how many chains and words were watched, and
-- how many chains were displayed
abbrev pub before_of : Rule → RunContext → SessionState → Before
before_of rule context state = record {
  number = state.number;
  depth = depth_at rule context state.number;
  watched = length state.stop.watched;
  displayed = length state.displayed;
}
