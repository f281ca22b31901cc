-- What a session answers where it stops.
use Rattle.std.specs.Prelude.{ℕ, ◌==◌, Bool, List, [], ◌++◌, codes, decimal, slice_index_or, Option, None, Some, Result, Ok, Err, if◌then◌else◌}
use Rattle.l6_history.specs.Stop.{is_at_statement}
use Rattle.l6_prog.specs.declared.condition.Test.{Test}
use Rattle.l6_steps.specs.Condition.{holds}
use Rattle.l6_steps.specs.State.{Memory, RunContext, State, is_last}
use Rattle.l6_steps.specs.declared.trap.Trap.{Trap}
use Rattle.l6_steps.specs.declared.halt.Halt.{Halt}
use Rattle.l6_steps.specs.declared.halt.Halt.TheVariants.{Done, Fail}
use Rattle.l6_steps.specs.declared.position.Position.{Position}
use Rattle.l6_machine.specs.Printout.{ending_line}
use Rattle.l6_marks.specs.Details.{details_text}
use Rattle.l6_session.specs.Changes.{Seen, changes_text}
use Rattle.l6_session.specs.Names.{Names}
use Rattle.l6_session.specs.Reports.{displayed_text}
use Rattle.l6_session.specs.SessionState.{SessionState}
use Rattle.l6_session.specs.Texts.{label_text, test_text}

-- where a state is and after how many steps, or how the run has ended, as the debugger of jobs says it
abbrev pub at_text : Position → List ℕ
at_text at = codes "AT " ++ decimal at.statement ++ codes "." ++ decimal at.action

abbrev pub steps_text : ℕ → List ℕ
steps_text count = codes " AFTER " ++ decimal count ++ codes " STEPS"

abbrev pub state_text : RunContext → State → List ℕ
state_text context state =
    if is_last context state then ending_line state else at_text state.at ++ steps_text state.count

-- the label of a state and its details: the cards of the statement, with the action marked, and, for a trap, its
-- reason
abbrev pub with_details : Names → RunContext → State → Option Halt → List ℕ
with_details names context state ending =
    label_text names.labels state.at.statement ++ codes "\n"
    ++ details_text names.deck context.program state.at ending

-- they follow, unless the run has come to its end
abbrev pub rest_text : Names → RunContext → State → Option Halt → List ℕ
rest_text names context state (Some Done) = codes "\n"
rest_text names context state (Some Fail) = codes "\n"
rest_text names context state other = with_details names context state other

abbrev pub place_text : Names → RunContext → State → List ℕ
place_text names context state =
    state_text context state ++ rest_text names context state state.ending

-- the session stays where it was
abbrev pub stay_text : ℕ → ℕ → List ℕ
stay_text before now =
    if now == before
    then (if now == 0 then codes "      This is the start: nothing comes before\n"
    else codes "      The session stays here\n")
    else []

-- the test of the breakpoint there meets a trap
abbrev pub met_text : Test → List ℕ
met_text test = codes "      the test " ++ test_text test ++ codes " meets a trap\n"

abbrev pub trapped_text : Test → Result Bool Trap → List ℕ
trapped_text test (Ok does_hold) = []
trapped_text test (Err trap) = met_text test

abbrev pub tested_text : Memory → Option Test → List ℕ
tested_text memory None = []
tested_text memory (Some test) = trapped_text test (holds test memory)

abbrev pub test_at_text : List (Option Test) → State → List ℕ
test_at_text tests state =
    if is_at_statement state
    then tested_text state.memory (slice_index_or tests state.at.statement None)
    else []

-- where a session has stopped that was at the state of a number before, and whether the test of a breakpoint
-- there meets a trap; what has changed since; and
-- what is displayed
abbrev pub stop_text : Names → RunContext → State → SessionState → ℕ → Seen → List ℕ
stop_text names context state session before seen =
    place_text names context state
    ++ test_at_text session.stop.tests state
    ++ stay_text before session.number
    ++ changes_text seen state.memory session.stop.watched
    ++ displayed_text state.memory session.displayed
