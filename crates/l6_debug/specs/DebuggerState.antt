-- Sessions: at which state of a run one is, and where commands lead.
use Rattle.std.specs.Prelude.{ℕ, suc, ◌+◌, ◌-◌, min, nat_lt, Bool, true, false, ◌&&◌, List, length, replicate, slice_set, unwrap_or}
use Rattle.l6_store.specs.Least.{least}
use Rattle.l6_store.specs.Rule.{Rule}
use Rattle.l6_steps.specs.Configuration.{state_at}
use Rattle.l6_steps.specs.Numbering.{last_number}
use Rattle.l6_steps.specs.State.{RunContext}
use Rattle.l6_history.specs.Stop.{is_at_breakpoint}
use Rattle.l6_debug.specs.declared.command.Command.{Command}
use Rattle.l6_debug.specs.declared.command.Command.TheVariants.{Step, Go, Back, Break, Clear}

-- the number of the state at which one is, and for each statement whether it has a breakpoint
pub record DebuggerState : Type 0 where
  pub number : ℕ
  pub breakpoints : List Bool

-- a session begins at the start, and no statement has a breakpoint
abbrev pub first_debugger_state : RunContext → DebuggerState
first_debugger_state context =
    record { number = 0; breakpoints = replicate (length context.program) false }

-- the number of the first later state that is at the condition of a statement with a breakpoint, or
-- of the last state
unfoldable pub next_breakpoint : Rule → RunContext → DebuggerState → ℕ
next_breakpoint rule context debugger_state =
    unwrap_or
    (least (suc (last_number rule context))
    (λ n. nat_lt debugger_state.number n && is_at_breakpoint debugger_state.breakpoints
    (state_at rule context n)))
    (last_number rule context)

-- the session after a command. It is at no state beyond the last, and back at none before the
-- start.
abbrev pub after : Rule → RunContext → DebuggerState → Command → DebuggerState
after rule context old (Step n) =
    record old { number = min (old.number + n) (last_number rule context) }
after rule context old Go = record old { number = next_breakpoint rule context old }
after rule context old (Back n) = record old { number = old.number - n }
after rule context old (Break s) = record old { breakpoints = slice_set old.breakpoints s true }
after rule context old (Clear s) = record old { breakpoints = slice_set old.breakpoints s false }
after rule context old other = old
