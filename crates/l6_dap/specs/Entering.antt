-- The way into a call of the statement at which the run stands.
use Rattle.std.specs.Prelude.{ℕ, zero, suc, ◌+◌, ◌-◌, ◌==◌, Bool, not, ◌&&◌, length, List, Option, if◌then◌else◌}
use Rattle.l6_history.specs.Stop.{some_differ, values_of}
use Rattle.l6_machine.specs.Options.{store_rule}
use Rattle.l6_session.specs.SessionState.{moved}
use Rattle.l6_session.specs.declared.command.Move.{Move}
use Rattle.l6_session.specs.declared.command.Move.TheVariants.{Next, Step}
use Rattle.l6_session.specs.inner.SessionRun.{SessionRun}
use Rattle.l6_steps.specs.State.{State}
use Rattle.l6_steps.specs.declared.position.Position.{Position}
use Rattle.l6_dap.specs.Showing.{state_of}

-- a run after a move
abbrev pub after_move : SessionRun → Move → SessionRun
after_move run to = record {
  context = run.context;
  state = moved store_rule run.context run.state to;
}

-- a state is at the action after a position, with so many calls waiting
abbrev pub is_after : State → Position → ℕ → Bool
is_after state at returns =
    state.at.statement == at.statement
    && (state.at.action == at.action + 1 && length state.memory.returns == returns)

-- a run is there, and what is watched reads as these values
abbrev pub is_there : SessionRun → Position → ℕ → List (Option ℕ) → Bool
is_there run at returns values =
    is_after (state_of run) at returns
    && not (some_differ values (values_of run.state.stop.watched (state_of run).memory))

-- a run is on its way after a move: it is at the next action, in the same call, and no watch stops it there
abbrev pub is_on_its_way : SessionRun → SessionRun → Bool
is_on_its_way old new =
    is_there new (state_of old).at (length (state_of old).memory.returns)
    (values_of old.state.stop.watched (state_of old).memory)

-- on over so many actions, one after another, and then into the call. The run stands where an action leads elsewhere,
-- or where it stops before
abbrev pub into_call : ℕ → SessionRun → SessionRun
into_call zero run = after_move run (Step 1)
into_call (suc n) run =
    let next = after_move run (Next 1) in
    if is_on_its_way run next then into_call n next else next

-- into the call by the action of a number
abbrev pub into : ℕ → SessionRun → SessionRun
into action run = into_call (action - (state_of run).at.action) run
