-- Sessions: at which state of a run one is, where one stops, what is displayed, and where commands lead.
use Rattle.std.specs.Prelude.{ℕ, zero, suc, ◌+◌, ◌-◌, ◌==◌, min, nat_lt, Bool, true, false, List, [], ◌∷◌, ◌++◌, length, replicate, slice_index_or, slice_set, Option, None, Some, Result, Ok, Err, ◌&&◌, if◌then◌else◌}
use Rattle.std.specs.List.{remove}
use Rattle.l6_store.specs.Rule.{Rule}
use Rattle.l6_steps.specs.Configuration.{state_at}
use Rattle.l6_steps.specs.Numbering.{last_number}
use Rattle.l6_steps.specs.Locus.{read}
use Rattle.l6_steps.specs.State.{RunContext}
use Rattle.l6_steps.specs.declared.trap.Trap.{Trap}
use Rattle.l6_prog.specs.declared.condition.Test.{Test}
use Rattle.l6_history.specs.Numerals.{most_watched}
use Rattle.l6_history.specs.Seeking.{next_stop, previous_stop}
use Rattle.l6_history.specs.Stop.{Stop, is_at_breakpoint, meets, nowhere}
use Rattle.l6_history.specs.declared.watched.BlockWord.{BlockWord}
use Rattle.l6_history.specs.declared.watched.Watched.{Watched}
use Rattle.l6_history.specs.declared.watched.Watched.TheVariants.{Chain as WatchedChain, Word as WatchedWord}
use Rattle.l6_session.specs.Numerals.{most_displayed, most_repeats}
use Rattle.l6_session.specs.declared.command.Command.{Command}
use Rattle.l6_session.specs.declared.command.Command.TheVariants as command
use Rattle.l6_session.specs.declared.command.Move.{Move}
use Rattle.l6_session.specs.declared.command.Move.TheVariants.{Step, Back, StepStatement, BackStatement, Goto, End, Next, ReverseNext, NextStatement, ReverseNextStatement, Finish, ReverseFinish, Continue, ReverseContinue, Run, Until, UntilNext}
use Rattle.l6_session.specs.declared.command.Setting.{Setting}
use Rattle.l6_session.specs.declared.command.Setting.TheVariants.{Break, BreakIf, TemporaryBreak, Condition, Delete, DeleteAll, Watch, Unwatch, UnwatchThis, Display, Undisplay, UndisplayChain}

-- the number of the state at which one is; where one stops; for each statement, whether its breakpoint
-- is removed where it is reached; and the chains that are displayed
pub record SessionState : Type 0 where
  pub number : ℕ
  pub stop : Stop
  pub temporary : List Bool
  pub displayed : List (List ℕ)

-- a session begins at the start, stops nowhere, and displays nothing
abbrev pub first_session_state : RunContext → SessionState
first_session_state context = record {
  number = 0;
  stop = nowhere (length context.program);
  temporary = replicate (length context.program) false;
  displayed = [];
}

-- for how many returns calls wait in the state of a number
abbrev pub depth_at : Rule → RunContext → ℕ → ℕ
depth_at rule context number = length (state_at rule context number).memory.returns

-- one stops where no more calls wait than this, too
abbrev pub to_depth : ℕ → Stop → Stop
to_depth depth stop = record stop { depth = Some depth }

-- one stops where statements begin, at each, or where no more calls wait than this
abbrev pub at_statements : Stop → Stop
at_statements stop = record stop { each = true }

abbrev pub to_statement : ℕ → Stop → Stop
to_statement depth stop = record stop { each = true; depth = Some depth }

-- the breakpoint of a statement is set, or is removed; it is temporary or not, and may have a test
abbrev pub with_breakpoint : ℕ → Bool → Bool → Option Test → SessionState → SessionState
with_breakpoint statement is temporary test old = record old {
  stop = record old.stop {
    breakpoints = slice_set old.stop.breakpoints statement is;
    tests = slice_set old.stop.tests statement test;
  };
  temporary = slice_set old.temporary statement temporary;
}

-- the breakpoint of a statement is given a test, or none, if it has a breakpoint
abbrev pub with_test : ℕ → Option Test → SessionState → SessionState
with_test statement test old =
    if slice_index_or old.stop.breakpoints statement false
    then record old { stop = record old.stop { tests = slice_set old.stop.tests statement test } }
    else old

-- the session has come to the state of a number: if one stops there at a temporary breakpoint, that is
-- removed
abbrev pub come_to : Rule → RunContext → SessionState → ℕ → SessionState
come_to rule context old number =
    let state = state_at rule context number in
    if is_at_breakpoint old.temporary state && meets old.stop.tests state
    then with_breakpoint state.at.statement false false None (record old { number = number })
    else record old { number = number }

-- one goes on or back to where a statement begins
abbrev pub on_statement : Rule → RunContext → SessionState → SessionState
on_statement rule context old =
    come_to rule context old (next_stop rule context (at_statements old.stop) old.number)

abbrev pub back_statement : Rule → RunContext → SessionState → SessionState
back_statement rule context old =
    come_to rule context old (previous_stop rule context (at_statements old.stop) old.number)

-- the same where no more calls wait than here
abbrev pub over_statement : Rule → RunContext → SessionState → SessionState
over_statement rule context old =
    come_to rule context old
    (next_stop rule context (to_statement (depth_at rule context old.number) old.stop) old.number)

abbrev pub back_over_statement : Rule → RunContext → SessionState → SessionState
back_over_statement rule context old =
    come_to rule context old
    (previous_stop rule context (to_statement (depth_at rule context old.number) old.stop) old.number)

-- one goes on or back to where no more calls wait than this
abbrev pub on_to : Rule → RunContext → SessionState → ℕ → SessionState
on_to rule context old depth =
    come_to rule context old (next_stop rule context (to_depth depth old.stop) old.number)

abbrev pub back_to : Rule → RunContext → SessionState → ℕ → SessionState
back_to rule context old depth =
    come_to rule context old (previous_stop rule context (to_depth depth old.stop) old.number)

-- one goes on or back to where one stops
abbrev pub on : Rule → RunContext → SessionState → SessionState
on rule context old = come_to rule context old (next_stop rule context old.stop old.number)

abbrev pub back : Rule → RunContext → SessionState → SessionState
back rule context old = come_to rule context old (previous_stop rule context old.stop old.number)

-- the same, or to where no more calls wait than here
abbrev pub over : Rule → RunContext → SessionState → SessionState
over rule context old = on_to rule context old (depth_at rule context old.number)

abbrev pub back_over : Rule → RunContext → SessionState → SessionState
back_over rule context old = back_to rule context old (depth_at rule context old.number)

-- one goes on to a statement, whatever test its breakpoint has, or to where one stops before
abbrev pub on_until : Rule → RunContext → SessionState → ℕ → SessionState
on_until rule context old statement =
    let stop = record old.stop {
      breakpoints = slice_set old.stop.breakpoints statement true;
      tests = slice_set old.stop.tests statement None;
    } in
    come_to rule context old (next_stop rule context stop old.number)

-- so many times what leads from one session to the next
unfoldable pub repeated : ℕ → (SessionState → SessionState) → SessionState → SessionState
repeated zero leads old = old
repeated (suc n) leads old = leads (repeated n leads old)

-- as often as is asked for, but no more often than a session repeats a command
abbrev pub times : ℕ → (SessionState → SessionState) → SessionState → SessionState
times n leads old = repeated (min n most_repeats) leads old

-- one more of some, as long as there are fewer than may be
abbrev pub one_more : {A : Type 0} → ℕ → List A → A → List A
one_more most all one = if nat_lt (length all) most then all ++ one ∷ [] else all

-- some without the one of this number, counted from 1 on, if there is one
abbrev pub one_less : {A : Type 0} → List A → ℕ → List A
one_less all number =
    if nat_lt (number - 1) (length all) then remove all (number - 1) else all

-- two chains have the same names
abbrev pub is_same : List ℕ → List ℕ → Bool
is_same [] [] = true
is_same (a ∷ one) (b ∷ other) = if a == b then is_same one other else false
is_same one other = false

-- the number of a chain among some, counted from 1 on, or a number that none of them has
abbrev pub number_in : List (List ℕ) → List ℕ → ℕ
number_in [] chain = 1
number_in (first ∷ others) chain = if is_same first chain then 1 else number_in others chain + 1

-- the same is watched: a chain of the same names, or the same word of the block at a place
abbrev pub is_same_word : BlockWord → BlockWord → Bool
is_same_word one other = one.place == other.place && one.word == other.word

abbrev pub is_same_watched : Watched → Watched → Bool
is_same_watched (WatchedChain one) (WatchedChain other) = is_same one other
is_same_watched (WatchedWord one) (WatchedWord other) = is_same_word one other
is_same_watched one other = false

-- its number among what is watched, counted from 1 on, or a number that nothing has
abbrev pub number_of_watched : List Watched → Watched → ℕ
number_of_watched [] wanted = 1
number_of_watched (first ∷ others) wanted =
    if is_same_watched first wanted then 1 else number_of_watched others wanted + 1

-- the session after one goes to another state. It is at no state beyond the last, and back at none before
-- the start. Where no call waits, there is none that could return.
abbrev pub moved : Rule → RunContext → SessionState → Move → SessionState
moved rule context old (Step n) =
    come_to rule context old (min (old.number + n) (last_number rule context))
moved rule context old (Back n) = come_to rule context old (old.number - n)
moved rule context old (StepStatement n) = times n (on_statement rule context) old
moved rule context old (BackStatement n) = times n (back_statement rule context) old
moved rule context old (NextStatement n) = times n (over_statement rule context) old
moved rule context old (ReverseNextStatement n) = times n (back_over_statement rule context) old
moved rule context old (Goto n) = come_to rule context old (min n (last_number rule context))
moved rule context old End = come_to rule context old (last_number rule context)
moved rule context old (Next n) = times n (over rule context) old
moved rule context old (ReverseNext n) = times n (back_over rule context) old
moved rule context old Finish =
    if depth_at rule context old.number == 0 then old
    else on_to rule context old (depth_at rule context old.number - 1)
moved rule context old ReverseFinish =
    if depth_at rule context old.number == 0 then old
    else back_to rule context old (depth_at rule context old.number - 1)
moved rule context old (Continue n) = times n (on rule context) old
moved rule context old (ReverseContinue n) = times n (back rule context) old
moved rule context old Run = on rule context (come_to rule context old 0)
moved rule context old (Until s) = on_until rule context old s
moved rule context old UntilNext =
    on_until rule context old ((state_at rule context old.number).at.statement + 1)

-- the session after one changes where one stops, or what is displayed
abbrev pub changed : SessionState → Setting → SessionState
changed old (Break s) = with_breakpoint s true false None old
changed old (BreakIf s test) = with_breakpoint s true false (Some test) old
changed old (TemporaryBreak s) = with_breakpoint s true true None old
changed old (Condition s test) = with_test s test old
changed old (Delete s) = with_breakpoint s false false None old
changed old DeleteAll = record old {
  stop = nowhere (length old.stop.breakpoints);
  temporary = replicate (length old.temporary) false;
}
changed old (Watch watched) =
    record old { stop = record old.stop { watched = one_more most_watched old.stop.watched watched } }
changed old (Unwatch n) =
    record old { stop = record old.stop { watched = one_less old.stop.watched n } }
changed old (UnwatchThis watched) =
    record old {
      stop = record old.stop {
        watched = one_less old.stop.watched (number_of_watched old.stop.watched watched);
      };
    }
changed old (Display chain) =
    record old { displayed = one_more most_displayed old.displayed chain }
changed old (Undisplay n) = record old { displayed = one_less old.displayed n }
changed old (UndisplayChain chain) =
    record old { displayed = one_less old.displayed (number_in old.displayed chain) }

-- a word of the block is watched to which an operand leads, if it can be followed
abbrev pub word_watched : SessionState → ℕ → Result ℕ Trap → SessionState
word_watched old word (Ok place) =
    changed old (Watch (WatchedWord (record { place = place; word = word })))
word_watched old word (Err trap) = old

-- the session after a command
abbrev pub after : Rule → RunContext → SessionState → Command → SessionState
after rule context old (command.Move to) = moved rule context old to
after rule context old (command.Setting setting) = changed old setting
after rule context old (command.View view) = old
after rule context old (command.WatchWord operand word) =
    word_watched old word (read (state_at rule context old.number).memory operand)
after rule context old (command.Who operand) = old
