-- The transcript of a session: the answers to its commands, each of the state of the run at which the
-- session then is.
use Rattle.std.specs.Prelude.{ℕ, Bool, true, false, List, [], ◌∷◌, ◌++◌, codes, if◌then◌else◌}
use Rattle.l6_store.specs.Rule.{Rule}
use Rattle.l6_word.specs.Lines.{lines_of}
use Rattle.l6_steps.specs.Configuration.{state_at}
use Rattle.l6_steps.specs.State.{RunContext}
use Rattle.l6_debug.specs.declared.command.Reading.{Reading}
use Rattle.l6_debug.specs.declared.command.Reading.TheVariants.{Skipped, Wrong, Quit, Asked}
use Rattle.l6_debug.specs.Answer.{answer_text}
use Rattle.l6_debug.specs.Command.{reading_of}
use Rattle.l6_debug.specs.DebuggerState.{DebuggerState, after, first_debugger_state}

-- the session after a line: only a command leads on
abbrev pub moved : Rule → RunContext → DebuggerState → Reading → DebuggerState
moved rule context old (Asked command) = after rule context old command
moved rule context old other = old

-- what is answered to a line: nothing, or one answer
abbrev pub answered : Rule → RunContext → DebuggerState → Reading → List (List ℕ)
answered rule context old Skipped = []
answered rule context old Wrong = codes "?? NOT A COMMAND\n" ∷ []
answered rule context old Quit = []
answered rule context old (Asked command) =
    answer_text context (state_at rule context (after rule context old command).number) command ∷ []

-- the line ends the session
abbrev pub is_quit : Reading → Bool
is_quit Quit = true
is_quit other = false

-- the answers to lines, one after another, from a session on
abbrev pub answers_from : Rule → RunContext → DebuggerState → List (List ℕ) → List (List ℕ)
answers_from rule context debugger_state [] = []
answers_from rule context debugger_state (line ∷ lines) =
    answered rule context debugger_state (reading_of line)
    ++ (if is_quit (reading_of line) then []
    else answers_from rule context (moved rule context debugger_state (reading_of line)) lines)

-- the answers to commands: the transcript is the text of them all
abbrev pub answers_to : Rule → RunContext → List ℕ → List (List ℕ)
answers_to rule context commands =
    answers_from rule context (first_debugger_state context) (lines_of commands)
