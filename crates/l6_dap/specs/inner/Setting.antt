-- Sessions after breakpoints are removed and set, one after another.
use Rattle.std.specs.Prelude.{ℕ, zero, suc, true, false, List, [], ◌∷◌, length, Option, Some, None}
use Rattle.l6_prog.specs.declared.condition.Test.{Test}
use Rattle.l6_session.specs.SessionState.{SessionState, with_breakpoint}
use Rattle.l6_dap.specs.declared.debuggee.Breakpoint.{Breakpoint}

-- how many statements may have a breakpoint
abbrev pub count_of : SessionState → ℕ
count_of state = length state.stop.breakpoints

-- the breakpoints of the first statements are removed
abbrev pub cleared : ℕ → SessionState → SessionState
cleared zero state = state
cleared (suc n) state = with_breakpoint n false false None (cleared n state)

-- a breakpoint is set if it has a test, or if it has none
abbrev pub with_tested : ℕ → Option Test → SessionState → SessionState
with_tested statement None state = state
with_tested statement (Some test) state = with_breakpoint statement true false (Some test) state

abbrev pub with_plain : ℕ → Option Test → SessionState → SessionState
with_plain statement None state = with_breakpoint statement true false None state
with_plain statement (Some test) state = state

-- so are all of some, in their order
abbrev pub with_all_tested : List Breakpoint → SessionState → SessionState
with_all_tested [] state = state
with_all_tested (one ∷ others) state =
    with_all_tested others (with_tested one.statement one.test state)

abbrev pub with_all_plain : List Breakpoint → SessionState → SessionState
with_all_plain [] state = state
with_all_plain (one ∷ others) state = with_all_plain others (with_plain one.statement one.test state)
