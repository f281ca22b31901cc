-- The commands of a session: their words, and what is said of them.
use Rattle.std.specs.Prelude.{ℕ, nat_le, Bool, ◌&&◌, List, [], ◌∷◌, codes, length, Option, Some, None, if◌then◌else◌}
use Rattle.std.specs.List.{list_any}
use Rattle.std.specs.Str.{bytes_eq}
use Prim.Native.String.{String}
use Rattle.l6_debug.specs.Command.{words_in}
use Rattle.l6_session.specs.Near.{is_one_off}
use Rattle.l6_session.specs.Numerals.{least_near}
use Rattle.l6_session.specs.declared.command.Command.TheVariants as command
use Rattle.l6_session.specs.declared.command.Move.{Move}
use Rattle.l6_session.specs.declared.command.Move.TheVariants as moves
use Rattle.l6_session.specs.declared.command.Setting.TheVariants.{DeleteAll}
use Rattle.l6_session.specs.declared.command.View.{View}
use Rattle.l6_session.specs.declared.command.View.TheVariants as views
use Rattle.l6_session.specs.declared.command.Reading.{Reading}
use Rattle.l6_session.specs.declared.command.Reading.TheVariants as reading
use Rattle.l6_session.specs.declared.command.Verb.{Verb}
use Rattle.l6_session.specs.declared.command.Verb.TheVariants.{Step, Back, StepState, BackState, Next, ReverseNext, NextState, ReverseNextState, Finish, ReverseFinish, Continue, ReverseContinue, Until, Run, Goto, Start, End, List as ListCards, Break, TemporaryBreak, Enable, Disable, Delete, Condition, Info, Watch, Unwatch, Display, Undisplay, Print, Block, Who, Where, Stack, Show, Fields, Draw, Store, Lists, Stats, Out, Checkpoints, Save, Source, Help, Quit, Set, Ignore, Commands}

-- the words of a command, between blanks; how it is written, with what follows it; what it does in a
-- few words; and what it does in a sentence without its stop
pub record Row : Type 0 where
  pub words : List ℕ
  pub usage : List ℕ
  pub line : List ℕ
  pub sentence : List ℕ

abbrev pub row : String → String → String → String → Row
row words usage line sentence = record {
  words = codes words;
  usage = codes usage;
  line = codes line;
  sentence = codes sentence;
}

-- the list of commands: the names of gdb and those of the debugger of jobs, and what stands for them
abbrev pub row_of : Verb → Row
row_of Step =
    row "STEP S" "step|s [N]" "on, a statement"
    "goes on to where a statement begins, also in a DO, or to where one stops before; N times"
row_of Back =
    row "BACK REVERSE-STEP RS" "back|rs [N]" "back, a statement"
    "goes back to where a statement begins, also in a DO, or to where one stops after it; N times"
row_of StepState =
    row "STEPI SI" "stepi|si [N]" "N states on"
    "goes N states on, 1 without N, at most to the last one. An action leads from one state to the next"
row_of BackState =
    row "BACKI REVERSE-STEPI RSI" "backi|rsi [N]" "N states back"
    "goes N states back, 1 without N, at most to the start"
row_of Next =
    row "NEXT N" "next|n [N]" "on, over a DO"
    "goes on to where a statement begins and no more calls wait than here, so over a DO, or to where one stops before; N times"
row_of ReverseNext =
    row "REVERSE-NEXT RN" "reverse-next|rn [N]" "back, over a DO"
    "goes back to where a statement begins and no more calls wait than here, or to where one stops after it; N times"
row_of NextState =
    row "NEXTI NI" "nexti|ni [N]" "a state on, so"
    "goes on to the next state at which no more calls wait than here, or to where one stops before; N times"
row_of ReverseNextState =
    row "REVERSE-NEXTI RNI" "reverse-nexti|rni" "a state back, so"
    "goes back to the latest state at which no more calls wait than here, or to where one stops after it; rni N does it N times"
row_of Finish =
    row "FINISH FIN" "finish|fin" "on, out of a DO"
    "goes on to where the latest call has returned, or to where one stops before"
row_of ReverseFinish =
    row "REVERSE-FINISH RF" "reverse-finish|rf" "back, to the DO"
    "goes back to where the latest call was made, or to where one stops after it"
row_of Continue =
    row "CONTINUE C CONT GO" "continue|c|go [N]" "on, to a stop"
    "goes on to the next state at which one stops, or to the last one; N times, so to the Nth stop"
row_of ReverseContinue =
    row "REVERSE-CONTINUE RC" "reverse-continue|rc" "back, to a stop"
    "goes back to the latest state at which one stops, or to the start; rc N does it N times. A watch then stops right before the step that changed the value"
row_of Until =
    row "UNTIL U UNT ADVANCE" "until|u [PLACE]" "on, to there"
    "goes on to the statement, or to where one stops before. Without PLACE it is the statement after this one, so that a loop is left at its end"
row_of Run =
    row "RUN R RESTART" "run|r" "start, to a stop"
    "goes to the first state, and on from there to where one stops"
row_of Goto =
    row "GOTO" "goto N" "to the state N"
    "goes to the state of a number, at most to the last one"
row_of Start =
    row "START" "start" "to the first"
    "goes to the first state"
row_of End =
    row "END" "end" "to the last"
    "goes to the last state"
row_of ListCards =
    row "LIST L LL" "list|l [PLACE|A,B|-]" "cards near it"
    "shows the cards near the state, and then those that follow; or those near a statement, from one number to another, or before the last ones"
row_of Break =
    row "BREAK B" "break|b PLACE" "stop there"
    "stops wherever the run comes to the statement. PLACE is a label, also with + and how many statements after it, the number of a statement, or : and the number of a card. With if and TEST after it, as (A,G,5), it stops where the test holds, or meets a trap"
row_of TemporaryBreak =
    row "TBREAK TB" "tbreak|tb PLACE" "stop there once"
    "like break, but the breakpoint is removed where the run first comes to it"
row_of Enable =
    row "ENABLE" "enable PLACE" "stop there again"
    "sets the breakpoint of a statement, without a test, as break does"
row_of Disable =
    row "DISABLE" "disable PLACE" "no longer there"
    "removes the breakpoint of a statement and its test, as delete does"
row_of Delete =
    row "DELETE D CLEAR" "delete|d [PLACE]" "no longer there"
    "removes the breakpoint of a statement; without PLACE all breakpoints, and nothing is watched any longer"
row_of Info =
    row "INFO I" "info|i" "where one stops"
    "shows where one stops, what is watched, and what is displayed, with numbers. A breakpoint has the number of its statement"
row_of Watch =
    row "WATCH" "watch CHAIN|*LINK[+W]" "stop at a change"
    "stops where the chain reads as another value, or can be followed no longer; or where word W of the block, 0 without W, is another one to which LINK leads now, or the block comes or goes. LINK is a chain or a number; up to 8 chains and words are watched"
row_of Unwatch =
    row "UNWATCH" "unwatch CHAIN|N" "watch no longer"
    "watches a chain no longer, or a word of a block, as *1024+2; N is the number that it has in info"
row_of Display =
    row "DISPLAY" "display CHAIN" "print at stops"
    "prints the chain at each stop; up to 8 chains"
row_of Undisplay =
    row "UNDISPLAY" "undisplay CHAIN|N" "print no longer"
    "displays a chain no longer; N is the number that it has in info"
row_of Print =
    row "PRINT P PP WHATIS" "print|p CHAIN|NUMBER" "what it reads as"
    "shows what it reads as, in decimal, in octal and as characters, and the block to which it leads; or at which field it can't be followed, and why. Of a label it shows the statement"
row_of Block =
    row "BLOCK X" "block|x CHAIN|NUMBER" "its block"
    "shows the words of the block to which it leads, and what the fields that are defined now show of it"
row_of Who =
    row "WHO" "who CHAIN|NUMBER" "got, wrote, freed it"
    "shows by which steps the block to which it leads was got, last written and freed, if it was: the state right before each, to which goto leads. The session stays where it is"
row_of Where =
    row "WHERE W BT BACKTRACE FRAME F UP DOWN" "where|bt [N]" "calls that wait"
    "shows where the run is, and where the calls that wait go on, the latest first; with N no more than N lines"
row_of Stack =
    row "STACK" "stack" "what is saved"
    "shows the contents and the definitions that are saved, the latest first"
row_of Show =
    row "SHOW" "show" "bugs, and amounts"
    "shows what the bugs hold, and how much is saved, taken and printed"
row_of Fields =
    row "FIELDS" "fields" "definitions"
    "shows what fields are defined as"
row_of Draw =
    row "DRAW" "draw [all]" "blocks and links"
    "draws the blocks that are reached, and their links, also those that lead to no block: 40 lines, or all"
row_of Store =
    row "STORE" "store" "map of the store"
    "shows the map of the store"
row_of Lists =
    row "LISTS" "lists" "free pieces"
    "shows the free pieces of the store, the first of each level first"
row_of Stats =
    row "STATS" "stats" "how far, how full"
    "shows how far the run has come, and how full the store is"
row_of Out =
    row "OUT" "out" "what is printed"
    "shows what the run has printed so far"
row_of Checkpoints =
    row "CHECKPOINTS" "checkpoints" "states kept"
    "shows at which states copies are kept, to go back from"
row_of Save =
    row "SAVE" "save [FILE]" "as commands"
    "shows the commands that lead a new session to where this one is, with its stops and what it displays, or writes them into a file"
row_of Source =
    row "SOURCE" "source FILE" "lines of a file"
    "obeys the lines of a file, and then those that follow"
row_of Help =
    row "HELP H ?" "help|h [COMMAND]" "this, or more"
    "shows the commands, or what one of them does"
row_of Quit =
    row "QUIT Q EXIT" "quit|q" "end the session"
    "ends the session, as the end of the input does"
row_of Set =
    row "SET CALL JUMP RETURN" "set" "a run stays as is"
    "changes nothing: a run is never changed. To try another one, change the deck"
row_of Ignore =
    row "IGNORE" "ignore" "see continue"
    "changes nothing: continue N passes over the stops before the Nth"
row_of Condition =
    row "CONDITION COND" "condition|cond PLACE [TEST]" "stop there if so"
    "stops at the breakpoint where the test holds, or meets a trap; without TEST always. TEST is a group of a card, as (A,G,5)"
row_of Commands =
    row "COMMANDS" "commands" "see display"
    "changes nothing: display prints a chain at each stop, and source obeys the lines of a file"

-- the commands, in the order in which help has them
unfoldable pub verbs : List Verb
verbs =
    Step ∷ Back ∷ StepState ∷ BackState ∷ Next ∷ ReverseNext ∷ NextState ∷ ReverseNextState ∷
    Finish ∷ ReverseFinish ∷ Continue ∷ ReverseContinue ∷ Until ∷ Run ∷ Goto ∷ Start ∷ End ∷
    ListCards ∷ Break ∷ TemporaryBreak ∷ Enable ∷ Disable ∷ Delete ∷ Condition ∷ Info ∷ Watch ∷
    Unwatch ∷ Display ∷ Undisplay ∷ Print ∷ Block ∷ Who ∷ Where ∷ Stack ∷ Show ∷ Fields ∷ Draw ∷ Store ∷
    Lists ∷ Stats ∷ Out ∷ Checkpoints ∷ Save ∷ Source ∷ Help ∷ Quit ∷ Set ∷ Ignore ∷ Commands ∷ []

abbrev pub moved : Move → Reading
moved to = reading.Asked (command.Move to)

abbrev pub shown : View → Reading
shown view = reading.Asked (command.View view)

-- what a command asks for that no word follows: one goes to another state, or something is shown, or more
-- is missing
abbrev pub alone : Verb → Reading
alone Step = moved (moves.StepStatement 1)
alone Back = moved (moves.BackStatement 1)
alone StepState = moved (moves.Step 1)
alone BackState = moved (moves.Back 1)
alone Next = moved (moves.NextStatement 1)
alone ReverseNext = moved (moves.ReverseNextStatement 1)
alone NextState = moved (moves.Next 1)
alone ReverseNextState = moved (moves.ReverseNext 1)
alone Finish = moved moves.Finish
alone ReverseFinish = moved moves.ReverseFinish
alone Continue = moved (moves.Continue 1)
alone ReverseContinue = moved (moves.ReverseContinue 1)
alone Until = moved moves.UntilNext
alone Run = moved moves.Run
alone Goto = reading.Missing Goto
alone Start = moved (moves.Goto 0)
alone End = moved moves.End
alone ListCards = shown views.ListHere
alone Break = shown views.Info
alone TemporaryBreak = reading.Missing TemporaryBreak
alone Enable = reading.Missing Enable
alone Disable = reading.Missing Disable
alone Delete = reading.Asked (command.Setting DeleteAll)
alone Info = shown views.Info
alone Watch = shown views.Info
alone Unwatch = reading.Missing Unwatch
alone Display = shown views.Info
alone Undisplay = reading.Missing Undisplay
alone Print = shown views.Show
alone Block = reading.Missing Block
alone Who = reading.Missing Who
alone Where = shown views.Where
alone Stack = shown views.Stack
alone Show = shown views.Show
alone Fields = shown views.Fields
alone Draw = shown views.Draw
alone Store = shown views.Store
alone Lists = shown views.Lists
alone Stats = shown views.Stats
alone Out = shown views.Out
alone Checkpoints = shown views.Checkpoints
alone Help = shown views.Help
alone Quit = reading.Quit
alone Set = shown views.Set
alone Ignore = shown views.Ignore
alone Condition = reading.Missing Condition
alone Commands = shown views.Commands
alone Save = shown views.Save
alone Source = reading.Missing Source

-- the word is one of the command's
abbrev pub is_word_of : Verb → List ℕ → Bool
is_word_of verb word = list_any (λ other. bytes_eq other word) (words_in (row_of verb).words)

-- the first of these commands whose word it is
abbrev pub named_among : List Verb → List ℕ → Option Verb
named_among [] word = None
named_among (verb ∷ others) word = if is_word_of verb word then Some verb else named_among others word

-- the word is nearly one of the command's, which is not too short for that
abbrev pub is_near : List ℕ → List ℕ → Bool
is_near word other = nat_le least_near (length other) && is_one_off other word

abbrev pub is_nearly_word_of : Verb → List ℕ → Bool
is_nearly_word_of verb word = list_any (is_near word) (words_in (row_of verb).words)

-- the first of these commands whose word it nearly is
abbrev pub nearly_among : List Verb → List ℕ → Option Verb
nearly_among [] word = None
nearly_among (verb ∷ others) word =
    if is_nearly_word_of verb word then Some verb else nearly_among others word
