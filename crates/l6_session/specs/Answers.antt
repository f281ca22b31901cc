-- What a session answers to a command.
use Rattle.std.specs.Prelude.{◌≡◌, ℕ, ◌==◌, nat_lt, ◌&&◌, Bool, true, false, List, ◌++◌, codes, length, slice_index_or, Option, Some, Result, Ok, Err, ⊤, if◌then◌else◌}
use Rattle.l6_prog.specs.declared.condition.Test.{Test}
use Rattle.l6_store.specs.Rule.{Rule}
use Rattle.l6_steps.specs.Configuration.{state_at}
use Rattle.l6_prog.specs.declared.operand.Operand.{Operand}
use Rattle.l6_history.specs.declared.watched.Watched.{Watched}
use Rattle.l6_history.specs.declared.watched.Watched.TheVariants.{Word as WatchedWord}
use Rattle.l6_steps.specs.Locus.{read}
use Rattle.l6_steps.specs.State.{Memory, RunContext, State}
use Rattle.l6_steps.specs.declared.trap.Trap.{Trap}
use Rattle.l6_debug.specs.Answer as batch
use Rattle.l6_draw.specs.StoreMap.{store_map}
use Rattle.l6_session.specs.Blocks.{draw_text, operand_block_text}
use Rattle.l6_session.specs.Changes.{Seen}
use Rattle.l6_session.specs.Drawn.{some_drawn}
use Rattle.l6_session.specs.Help.{help_text}
use Rattle.l6_session.specs.Listing.{cards_back, here_text, listed_text, own_text}
use Rattle.l6_session.specs.Names.{Names}
use Rattle.l6_session.specs.Reports.{info_text, near_text}
use Rattle.l6_session.specs.Saved.{saved_lines}
use Rattle.l6_session.specs.SessionState.{SessionState}
use Rattle.l6_session.specs.Who.{who_text}
use Rattle.l6_session.specs.Stops.{stop_text}
use Rattle.l6_session.specs.Texts.{breakpoint_line, few_text, numbered_line, numbered_watch, operand_text, saved_text, statement_line, waiting_text}
use Rattle.l6_session.specs.declared.before.Before.{Before}
use Rattle.l6_session.specs.declared.command.Cards.{Cards}
use Rattle.l6_session.specs.declared.command.Command.{Command}
use Rattle.l6_session.specs.declared.command.Command.TheVariants as command
use Rattle.l6_session.specs.declared.command.Move.{Move}
use Rattle.l6_session.specs.declared.command.Move.TheVariants.{Finish, ReverseFinish}
use Rattle.l6_session.specs.declared.command.Setting.{Setting}
use Rattle.l6_session.specs.declared.command.Setting.TheVariants.{Break, BreakIf, TemporaryBreak, Condition, Delete, DeleteAll, Watch, Unwatch, UnwatchThis, Display, Undisplay, UndisplayChain}
use Rattle.l6_session.specs.declared.command.View.{View}
use Rattle.l6_session.specs.declared.command.View.TheVariants.{Print, Label, PrintLabel, Block, Where, WhereFew, Stack, Show, Fields, Draw, DrawAll, Store, Lists, Stats, Out, Checkpoints, Info, Save, ListHere, ListBefore, ListNear, ListCards, Help, Set, Ignore, Commands}

-- one goes out of the latest call
abbrev pub is_finish : Move → Bool
is_finish Finish = true
is_finish ReverseFinish = true
is_finish other = false

-- what is answered where one went to another state, by what was seen where one was; or where one is to go out of
-- the latest call and none waits
abbrev pub move_text : Rule → Names → RunContext → Before → Seen → SessionState → Move → List ℕ
move_text rule names context before seen new to =
    if before.depth == 0 && is_finish to then codes "No call waits: there is nothing to finish\n"
    else stop_text names context (state_at rule context new.number) new before.number seen

-- what is said of a chain that is to be displayed, of which there are more than before or not
abbrev pub displayed_text : State → ℕ → ℕ → List ℕ → List ℕ
displayed_text state before now chain =
    if nat_lt before now then numbered_line state.memory (codes "display ") now chain
    else codes "Eight chains are displayed already: undisplay one of them\n"

-- and of what is to be watched
abbrev pub watched_text : Memory → Before → SessionState → Watched → List ℕ
watched_text memory before new one =
    if nat_lt before.watched (length new.stop.watched)
    then numbered_watch memory (length new.stop.watched) one
    else codes "Eight are watched already: unwatch one of them\n"

-- a word of the block to which an operand leads, or why it leads nowhere
abbrev pub word_at_text : Memory → Before → SessionState → ℕ → Operand → Result ℕ Trap → List ℕ
word_at_text memory before new word operand (Ok place) =
    watched_text memory before new (WatchedWord (record { place = place; word = word }))
word_at_text memory before new word operand (Err trap) = operand_text memory operand

abbrev pub word_text : Memory → Before → SessionState → ℕ → Operand → List ℕ
word_text memory before new word operand =
    word_at_text memory before new word operand (read memory operand)

-- what is said where there are fewer than before, or not
abbrev pub removed_text : ℕ → ℕ → List ℕ → List ℕ
removed_text before now refused =
    if nat_lt now before then codes "It is taken off the list: see info\n" else refused

-- what is said of a statement, and its cards
abbrev pub with_cards : List ℕ → Names → ℕ → List ℕ
with_cards said names s = statement_line said names.labels s ++ own_text names s

-- what is said of a breakpoint that is given a test, or none
abbrev pub tested_text : Names → ℕ → Option Test → List ℕ
tested_text names s test =
    breakpoint_line (codes "Breakpoint at ") names.labels s test ++ own_text names s

abbrev pub condition_text : SessionState → Names → ℕ → Option Test → List ℕ
condition_text new names s test =
    if slice_index_or new.stop.breakpoints s false then tested_text names s test
    else codes "No breakpoint is there: break PLACE if TEST sets one\n"

-- what is answered where it was changed where one stops, or what is displayed
abbrev pub setting_text : Rule → Names → RunContext → Before → SessionState → Setting → List ℕ
setting_text rule names context before new (Break s) =
    with_cards (codes "Breakpoint at ") names s
setting_text rule names context before new (TemporaryBreak s) =
    with_cards (codes "Temporary breakpoint at ") names s
setting_text rule names context before new (BreakIf s test) =
    tested_text names s (Some test)
setting_text rule names context before new (Condition s test) = condition_text new names s test
setting_text rule names context before new (Delete s) =
    statement_line (codes "No breakpoint is left at ") names.labels s
setting_text rule names context before new DeleteAll =
    codes "No breakpoint is set, and nothing is watched\n"
setting_text rule names context before new (Watch one) =
    watched_text (state_at rule context new.number).memory before new one
setting_text rule names context before new (Unwatch n) =
    removed_text before.watched (length new.stop.watched)
    (codes "Nothing that is watched has this number: see info\n")
setting_text rule names context before new (UnwatchThis one) =
    removed_text before.watched (length new.stop.watched)
    (codes "This is not watched: see info\n")
setting_text rule names context before new (Display chain) =
    displayed_text (state_at rule context new.number) before.displayed (length new.displayed) chain
setting_text rule names context before new (Undisplay n) =
    removed_text before.displayed (length new.displayed)
    (codes "No chain that is displayed has this number: see info\n")
setting_text rule names context before new (UndisplayChain chain) =
    removed_text before.displayed (length new.displayed)
    (codes "This chain is not displayed: see info\n")

-- the statement of a label
abbrev pub label_text : Names → ℕ → List ℕ
label_text names s = with_cards (codes "A label, of statement ") names s

-- what is spelled as a label, and is a chain or a number, too
abbrev pub both_text : Memory → Names → Operand → ℕ → List ℕ
both_text memory names operand s = operand_text memory operand ++ label_text names s

-- what is shown, where these cards were listed last. The first four texts are those of the debugger of jobs.
-- Of the states that are kept, of free lists and of amounts nothing is said but that one text shows them
abbrev pub ShowsView : Rule → Names → Option Cards → RunContext → SessionState → View → List ℕ → Type 0
ShowsView rule names listed context now Show text =
    text ≡ batch.shown context (state_at rule context now.number)
ShowsView rule names listed context now Fields text =
    text ≡ batch.fields (state_at rule context now.number).memory.definitions
ShowsView rule names listed context now Store text =
    text ≡ store_map context.parameters.units (state_at rule context now.number).memory
ShowsView rule names listed context now Out text =
    text ≡ batch.printed (state_at rule context now.number).memory.output
ShowsView rule names listed context now Where text =
    text ≡ waiting_text names.labels (state_at rule context now.number)
ShowsView rule names listed context now (WhereFew lines) text =
    text ≡ few_text lines names.labels (state_at rule context now.number)
ShowsView rule names listed context now Stack text =
    text ≡ saved_text (state_at rule context now.number).memory
ShowsView rule names listed context now (Print operand) text =
    text ≡ operand_text (state_at rule context now.number).memory operand
ShowsView rule names listed context now (Label s) text = text ≡ label_text names s
ShowsView rule names listed context now (PrintLabel operand s) text =
    text ≡ both_text (state_at rule context now.number).memory names operand s
ShowsView rule names listed context now (Block operand) text =
    text ≡ operand_block_text (state_at rule context now.number).memory operand
ShowsView rule names listed context now Draw text =
    text ≡ some_drawn context.parameters.units (state_at rule context now.number).memory
ShowsView rule names listed context now DrawAll text =
    text ≡ draw_text context.parameters.units (state_at rule context now.number).memory
ShowsView rule names listed context now Lists text = ⊤
ShowsView rule names listed context now Stats text = ⊤
ShowsView rule names listed context now Checkpoints text = ⊤
ShowsView rule names listed context now Info text =
    text ≡ info_text names.labels (state_at rule context now.number).memory now
ShowsView rule names listed context now Save text = text ≡ saved_lines names now
ShowsView rule names listed context now ListHere text =
    text ≡ here_text names.deck (state_at rule context now.number).at.statement listed
ShowsView rule names listed context now ListBefore text =
    text ≡ listed_text names.deck
    (cards_back names.deck (state_at rule context now.number).at.statement listed)
ShowsView rule names listed context now (ListNear s) text = text ≡ near_text names.deck s
ShowsView rule names listed context now (ListCards cards) text =
    text ≡ listed_text names.deck (Some cards)
ShowsView rule names listed context now Help text = text ≡ help_text
ShowsView rule names listed context now Set text =
    text ≡ codes "A run is never changed: change the deck, and debug that one\n"
ShowsView rule names listed context now Ignore text =
    text ≡ codes "continue N goes on to the Nth stop, and passes over those before\n"
ShowsView rule names listed context now Commands text =
    text ≡ codes "A breakpoint has no commands: display CHAIN prints a chain at each stop\n"

-- what is answered to a command, by the cards that were listed last, what the session was like before it,
-- what was seen there, and the session after it
abbrev pub AnswersObeyed : Rule → Names → Option Cards → RunContext → Before → Seen → SessionState → Command → List ℕ → Type 0
AnswersObeyed rule names listed context before seen new (command.Move to) text =
    text ≡ move_text rule names context before seen new to
AnswersObeyed rule names listed context before seen new (command.Setting setting) text =
    text ≡ setting_text rule names context before new setting
AnswersObeyed rule names listed context before seen new (command.View view) text =
    ShowsView rule names listed context new view text
AnswersObeyed rule names listed context before seen new (command.WatchWord operand word) text =
    text ≡ word_text (state_at rule context new.number).memory before new word operand
AnswersObeyed rule names listed context before seen new (command.Who operand) text =
    text ≡ who_text rule names context new.number operand
