-- The commands that lead a new session to where one is, and their lines.
use Rattle.std.specs.Prelude.{◌≡◌, ℕ, ◌+◌, Bool, true, false, List, [], ◌∷◌, ◌++◌, codes, decimal, drop, map, Option, None, Some, if◌then◌else◌}
use Rattle.std.specs.List.{flat_map}
use Rattle.l6_history.specs.declared.watched.Watched.{Watched}
use Rattle.l6_prog.specs.declared.condition.Test.{Test}
use Rattle.l6_store.specs.Rule.{Rule}
use Rattle.l6_steps.specs.State.{RunContext}
use Rattle.l6_marks.specs.Cards.{is_statement}
use Rattle.l6_session.specs.Names.{Names, statement_of}
use Rattle.l6_session.specs.SessionState.{SessionState, after, first_session_state}
use Rattle.l6_session.specs.Texts.{chain_text, label_text, test_text, watched_name}
use Rattle.l6_session.specs.declared.command.Command.{Command}
use Rattle.l6_session.specs.declared.command.Command.TheVariants.{Move, Setting}
use Rattle.l6_session.specs.declared.command.Move.TheVariants.{Goto}
use Rattle.l6_session.specs.declared.command.Setting.TheVariants.{Break, TemporaryBreak, Condition, Watch, Display}

-- the session after some commands
abbrev pub after_all : Rule → RunContext → SessionState → List Command → SessionState
after_all rule context old [] = old
after_all rule context old (command ∷ commands) =
    after_all rule context (after rule context old command) commands

-- the breakpoints from a statement on that are not temporary, and those that are
abbrev pub lasting_breaks : ℕ → List Bool → List Bool → List Command
lasting_breaks s (true ∷ is) (false ∷ temporary) = Setting (Break s) ∷ lasting_breaks (s + 1) is temporary
lasting_breaks s (i ∷ is) (t ∷ temporary) = lasting_breaks (s + 1) is temporary
lasting_breaks s is temporary = []

abbrev pub temporary_breaks : ℕ → List Bool → List Command
temporary_breaks s [] = []
temporary_breaks s (true ∷ temporary) = Setting (TemporaryBreak s) ∷ temporary_breaks (s + 1) temporary
temporary_breaks s (false ∷ temporary) = temporary_breaks (s + 1) temporary

-- the tests of breakpoints
abbrev pub given_tests : ℕ → List (Option Test) → List Command
given_tests s [] = []
given_tests s (None ∷ tests) = given_tests (s + 1) tests
given_tests s (Some test ∷ tests) = Setting (Condition s (Some test)) ∷ given_tests (s + 1) tests

abbrev pub watched : Watched → Command
watched one = Setting (Watch one)

abbrev pub displayed : List ℕ → Command
displayed chain = Setting (Display chain)

-- the commands that lead a new session to this one; breakpoints that are removed where they are reached are
-- set at the end, so that none is on the way
abbrev pub saved_commands : SessionState → List Command
saved_commands state =
    lasting_breaks 0 state.stop.breakpoints state.temporary
    ++ map watched state.stop.watched
    ++ map displayed state.displayed
    ++ (Move (Goto state.number) ∷ temporary_breaks 0 state.temporary)
    ++ given_tests 0 state.stop.tests

-- to whatever session commands lead, those that are saved of it lead there, too
abbrev pub LeadsBack : Rule → Type 0
LeadsBack rule = (context : RunContext) → (commands : List Command) →
    let state = after_all rule context (first_session_state context) commands in
    after_all rule context (first_session_state context) (saved_commands state) ≡ state

-- a statement after a blank: by the label before it, if that names it, or by its number
abbrev pub placed : Names → ℕ → List ℕ
placed names s =
    if is_statement s (statement_of names (drop 1 (label_text names.labels s)))
    then label_text names.labels s
    else codes " " ++ decimal s

-- the line of a command that is saved
abbrev pub placed_line : List ℕ → Names → ℕ → List ℕ
placed_line word names s = word ++ placed names s ++ codes "\n"

abbrev pub tested_line : Names → ℕ → Test → List ℕ
tested_line names s test =
    codes "condition" ++ placed names s ++ codes " " ++ test_text test ++ codes "\n"

abbrev pub named_line : List ℕ → List ℕ → List ℕ
named_line word chain = word ++ chain_text chain ++ codes "\n"

abbrev pub numbered_line : List ℕ → ℕ → List ℕ
numbered_line word number = word ++ decimal number ++ codes "\n"

abbrev pub watched_saved : Watched → List ℕ
watched_saved one = codes "watch " ++ watched_name one ++ codes "\n"

abbrev pub saved_line : Names → Command → List ℕ
saved_line names (Setting (Break s)) = placed_line (codes "break") names s
saved_line names (Setting (TemporaryBreak s)) = placed_line (codes "tbreak") names s
saved_line names (Setting (Condition s (Some test))) = tested_line names s test
saved_line names (Setting (Watch one)) = watched_saved one
saved_line names (Setting (Display chain)) = named_line (codes "display ") chain
saved_line names (Move (Goto n)) = numbered_line (codes "goto ") n
saved_line names other = []

abbrev pub saved_lines : Names → SessionState → List ℕ
saved_lines names state = flat_map (saved_line names) (saved_commands state)
