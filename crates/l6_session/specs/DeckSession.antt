-- A session with the run of a deck, which answers lines.
use Rattle.std.specs.Prelude.{◌≡◌, ℕ, ◌==◌, ◌&&◌, ◌||◌, Bool, true, false, List, [], ◌++◌, codes, length, not, slice_index_or, Option}
use Rattle.l6_store.specs.Rule.{Rule}
use Rattle.l6_steps.specs.State.{RunContext}
use Rattle.l6_steps.specs.Configuration.{state_at}
use Rattle.l6_session.specs.Answers.{AnswersObeyed, is_finish}
use Rattle.l6_session.specs.Before.{before_of}
use Rattle.l6_session.specs.Changes.{seen_of}
use Rattle.l6_session.specs.Help.{sentence_text}
use Rattle.l6_session.specs.Listing.{listed_after}
use Rattle.l6_session.specs.Names.{Names}
use Rattle.l6_session.specs.Reading.{reading_of}
use Rattle.l6_session.specs.SessionState.{SessionState, after}
use Rattle.l6_session.specs.Stops.{place_text}
use Rattle.l6_session.specs.declared.before.Before.{Before}
use Rattle.l6_session.specs.declared.command.Cards.{Cards}
use Rattle.l6_session.specs.declared.command.Command.{Command}
use Rattle.l6_session.specs.declared.command.Command.TheVariants as command
use Rattle.l6_session.specs.declared.command.Setting.{Setting}
use Rattle.l6_session.specs.declared.command.Setting.TheVariants.{Condition, Watch, Unwatch, UnwatchThis, Display, Undisplay, UndisplayChain}
use Rattle.l6_session.specs.declared.command.Reading.{Reading}
use Rattle.l6_session.specs.declared.command.Reading.TheVariants.{Skipped, Wrong, Nearly, Missing, Unfit, NoStatement, NoChain, NoFile, NoTest, HelpOn, Quit, Asked}

-- what the statements of a deck are named by, the context of its run, the session with that run, the cards
-- that were listed last, if any, and whether a line was refused
pub record DeckSession : Type 0 where
  pub names : Names
  pub context : RunContext
  pub state : SessionState
  pub listed : Option Cards
  pub refused : Bool

-- a line leads on if it is a command, and no other does
abbrev pub moved : Rule → RunContext → SessionState → Reading → SessionState
moved rule context old (Asked command) = after rule context old command
moved rule context old other = old

-- the cards that were listed last
abbrev pub listed_by : List ℕ → ℕ → Option Cards → Reading → Option Cards
listed_by deck statement listed (Asked command) = listed_after deck statement listed command
listed_by deck statement listed other = listed

-- a list has no room for a chain, or does not have the one that is to be taken off it; or no breakpoint is
-- there that could be given a test
abbrev pub refuses_setting : Before → SessionState → Setting → Bool
refuses_setting before new (Watch watched) = before.watched == length new.stop.watched
refuses_setting before new (Unwatch n) = before.watched == length new.stop.watched
refuses_setting before new (UnwatchThis watched) = before.watched == length new.stop.watched
refuses_setting before new (Display chain) = before.displayed == length new.displayed
refuses_setting before new (Undisplay n) = before.displayed == length new.displayed
refuses_setting before new (UndisplayChain chain) = before.displayed == length new.displayed
refuses_setting before new (Condition s test) = not (slice_index_or new.stop.breakpoints s false)
refuses_setting before new other = false

-- a command is refused, by what the session was like before it: so, or where no call waits that could
-- return
abbrev pub refuses : Before → SessionState → Command → Bool
refuses before new (command.Move to) = before.depth == 0 && is_finish to
refuses before new (command.Setting setting) = refuses_setting before new setting
refuses before new (command.View view) = false
refuses before new (command.WatchWord operand word) = before.watched == length new.stop.watched
refuses before new (command.Who operand) = false

-- a line is wrong: it is no command, it lacks something or has too much, or it names no statement, no
-- chain, or a file that is not opened
abbrev pub is_wrong : Reading → Bool
is_wrong (Asked command) = false
is_wrong Skipped = false
is_wrong (HelpOn verb) = false
is_wrong Quit = false
is_wrong other = true

-- a line is refused: it is wrong, or its command is refused
abbrev pub is_refused : Rule → RunContext → SessionState → Reading → Bool
is_refused rule context old (Asked command) =
    refuses (before_of rule context old) (after rule context old command) command
is_refused rule context old other = is_wrong other

-- the session after a line
abbrev pub after_reading : Rule → DeckSession → Reading → DeckSession
after_reading rule old reading = record old {
  state = moved rule old.context old.state reading;
  listed = listed_by old.names.deck (state_at rule old.context old.state.number).at.statement old.listed
      reading;
  refused = old.refused || is_refused rule old.context old.state reading;
}

abbrev pub after_line : Rule → DeckSession → List ℕ → DeckSession
after_line rule old line = after_reading rule old (reading_of old.names line)

-- where a session is, as at a stop
abbrev pub shown_place : Rule → DeckSession → List ℕ
shown_place rule session =
    place_text session.names session.context (state_at rule session.context session.state.number)

-- the line ends the session
abbrev pub is_quit : Reading → Bool
is_quit Quit = true
is_quit other = false

-- what is answered to a command that leads from one session to another, where these cards were listed last
abbrev pub AnswersCommand : Rule → Names → Option Cards → RunContext → SessionState → SessionState → Command → List ℕ → Type 0
AnswersCommand rule names listed context old new command text =
    AnswersObeyed rule names listed context (before_of rule context old)
    (seen_of (state_at rule context old.number).memory old.stop.watched) new command text

abbrev pub AnswersReading : Rule → Names → Option Cards → RunContext → SessionState → Reading → List ℕ → Type 0
AnswersReading rule names listed context old Skipped text = text ≡ []
AnswersReading rule names listed context old Wrong text = text ≡ codes "Not a command: help lists them\n"
AnswersReading rule names listed context old (Nearly verb) text =
    text ≡ codes "Not a command. Did you mean this one? " ++ sentence_text verb
AnswersReading rule names listed context old (Missing verb) text =
    text ≡ codes "Something is missing. " ++ sentence_text verb
AnswersReading rule names listed context old (Unfit verb) text =
    text ≡ codes "This can't follow it. " ++ sentence_text verb
AnswersReading rule names listed context old NoStatement text =
    text ≡ codes "No such statement: a label, a number of a statement, or : and that of a card\n"
AnswersReading rule names listed context old NoChain text =
    text ≡ codes "No such chain: a bug, A to Z, and up to five fields after it, as in QNC\n"
AnswersReading rule names listed context old NoTest text =
    text ≡ codes "No such test: a group as on a card, with E, N, G, L, O or Z, as in (A,G,5)\n"
AnswersReading rule names listed context old NoFile text =
    text ≡ codes "No such file, or it can't be opened\n"
AnswersReading rule names listed context old (HelpOn verb) text = text ≡ sentence_text verb
AnswersReading rule names listed context old Quit text = text ≡ []
AnswersReading rule names listed context old (Asked command) text =
    AnswersCommand rule names listed context old (after rule context old command) command text
