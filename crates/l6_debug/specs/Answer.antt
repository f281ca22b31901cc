-- What the debugger answers to a command, of the state at which its session then is.
use Rattle.std.specs.Prelude.{ℕ, ◌-◌, ◌==◌, nat_lt, List, [], ◌∷◌, ◌++◌, length, replicate, codes, decimal, Option, Some, None, is_none, if◌then◌else◌}
use Rattle.std.specs.List.{enumerate_from, flat_map, list_all}
use Rattle.std.specs.Str.{byte}
use Rattle.std.specs.FinMap as places
use Rattle.l6_word.specs.Octal.{octal12}
use Rattle.l6_word.specs.Window.{Window}
use Rattle.l6_prog.specs.Numerals.{first_letter}
use Rattle.l6_steps.specs.State.{Memory, State, RunContext, is_last}
use Rattle.l6_machine.specs.Printout.{ending_line, missing_line_feed}
use Rattle.l6_draw.specs.Drawing.{character_of, drawing}
use Rattle.l6_draw.specs.StoreMap.{store_map}
use Rattle.l6_debug.specs.declared.command.Command.{Command}
use Rattle.l6_debug.specs.declared.command.Command.TheVariants.{Step, Go, Back, Break, Clear, Show, Fields, Block, Draw, Store, Out}
use Rattle.l6_debug.specs.Numerals.{index_places}

-- where a state is and how many steps are counted, or how the run ended, of a last state
abbrev pub place_line : State → List ℕ
place_line state =
    codes "AT " ++ decimal state.at.statement ++ codes "." ++ decimal state.at.action
    ++ codes " AFTER " ++ decimal state.count ++ codes " STEPS"

abbrev pub status : RunContext → State → List ℕ
status context state =
    (if is_last context state then ending_line state else place_line state) ++ codes "\n"

-- the line of a bug, by its name and what it holds: none where that is 0
abbrev pub bug_line : ℕ × ℕ → List ℕ
bug_line bug =
    if bug.1 == 0 then []
    else character_of bug.0 ∷ codes " " ++ octal12 bug.1 ++ codes " " ++ decimal bug.1 ++ codes "\n"

-- how much is saved, and for how many returns calls wait; how much is taken and printed
abbrev pub depths_text : ℕ → ℕ → ℕ → List ℕ
depths_text contents definitions returns =
    codes "CONTENTS " ++ decimal contents ++ codes " DEFINITIONS " ++ decimal definitions
    ++ codes " RETURNS " ++ decimal returns

abbrev pub amounts_text : ℕ → ℕ → List ℕ
amounts_text taken printed =
    codes " INPUT " ++ decimal taken ++ codes " OUTPUT " ++ decimal printed ++ codes "\n"

abbrev pub counts_line : Memory → List ℕ
counts_line memory =
    depths_text (length memory.saved_contents) (length memory.saved_definitions)
    (length memory.returns)
    ++ amounts_text memory.taken (length memory.output)

abbrev pub shown : RunContext → State → List ℕ
shown context state =
    status context state ++ flat_map bug_line (enumerate_from first_letter state.memory.bugs)
    ++ counts_line state.memory

-- the line of a field, by its name and what it is defined as, if it is
abbrev pub field_line : ℕ × Option Window → List ℕ
field_line (name, None) = []
field_line (name, Some window) =
    character_of name ∷ codes " " ++ decimal window.word ++ codes " " ++ decimal window.first
    ++ codes " " ++ decimal window.last ++ codes "\n"

abbrev pub fields : List (Option Window) → List ℕ
fields definitions =
    if list_all is_none definitions then codes "NO FIELDS\n"
    else flat_map field_line (enumerate_from 0 definitions)

-- the line of a word of a block, by its index, which is at the right end of its places
abbrev pub index_text : ℕ → List ℕ
index_text index =
    replicate (index_places - length (decimal index)) (byte " ") ++ decimal index

abbrev pub word_line : ℕ × ℕ → List ℕ
word_line word = index_text word.0 ++ codes " " ++ octal12 word.1 ++ codes "\n"

-- a line of a few words and a number
abbrev pub report_of : List ℕ → ℕ → List ℕ
report_of reported number = reported ++ decimal number ++ codes "\n"

-- the block that begins at a place, by its words, if there is one
abbrev pub block_lines : ℕ → Option (List ℕ) → List ℕ
block_lines place None = report_of (codes "NO BLOCK AT ") place
block_lines place (Some words) =
    codes "BLOCK " ++ decimal place ++ codes " SIZE " ++ decimal (length words) ++ codes "\n"
    ++ flat_map word_line (enumerate_from 0 words)

-- the output so far, in whole lines
abbrev pub printed : List ℕ → List ℕ
printed output =
    codes "OUTPUT " ++ decimal (length output) ++ codes " BYTES\n"
    ++ (output ++ missing_line_feed output)

-- what is said of a statement's breakpoint, if there is such a statement
abbrev pub breakpoint_line : RunContext → ℕ → List ℕ → List ℕ
breakpoint_line context statement reported =
    if nat_lt statement (length context.program)
    then report_of reported statement
    else codes "?? NO SUCH STATEMENT\n"

-- the answer to a command
abbrev pub answer_text : RunContext → State → Command → List ℕ
answer_text context state (Step n) = status context state
answer_text context state Go = status context state
answer_text context state (Back n) = status context state
answer_text context state (Break s) = breakpoint_line context s (codes "BREAK AT ")
answer_text context state (Clear s) = breakpoint_line context s (codes "CLEARED ")
answer_text context state Show = shown context state
answer_text context state Fields = fields state.memory.definitions
answer_text context state (Block p) = block_lines p (places.get state.memory.blocks p)
answer_text context state Draw = drawing state.memory
answer_text context state Store = store_map context.parameters.units state.memory
answer_text context state Out = printed state.memory.output
