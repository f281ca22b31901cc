-- A session in its context.
use Rattle.std.specs.Prelude.{◌≡◌, ℕ, min, List, [], Bool, false, length, replicate, ◌++◌, Option, None}
use Rattle.std.specs.Io.KnownBytes.{Appends}
use Rattle.std.specs.List.{concat}
use Rattle.l6_steps.specs.State.{RunContext}
use Rattle.l6_device.specs.Numerals.{most_counted}
use Rattle.l6_history.specs.Stop.{Stop}
use Rattle.l6_debug.specs.DebuggerState.{DebuggerState}

-- the context of the run that is looked at, and the session
pub record DebuggerRun : Type 0 where
  pub context : RunContext
  pub debugger_state : DebuggerState

-- where the debugger stops: at breakpoints alone, which have no tests
abbrev pub stop_at : List Bool → Stop
stop_at breakpoints = record {
  breakpoints = breakpoints;
  tests = replicate (length breakpoints) None;
  each = false;
  watched = [];
  depth = None;
}

-- of all answers those went out that are before the rest, and their bytes are counted
pub record HaveGoneOut (all rest : List (List ℕ)) (old new : Option (List ℕ)) (sent : ℕ)
    : Type 0 where
  pub gone : List (List ℕ)
  pub are : all ≡ gone ++ rest
  pub out : Appends old new (concat gone)
  pub counted : sent ≡ min (length (concat gone)) most_counted
