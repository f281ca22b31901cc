-- What a session shows of a state: values, statements by their labels, and what waits and is saved.
use Rattle.std.specs.Prelude.{ℕ, ◌-◌, ◌/◌, ◌%◌, ◌^◌, ◌==◌, nat_le, nat_lt, List, [], ◌∷◌, ◌++◌, length, take, map, codes, decimal, Option, Some, None, Result, Ok, Err, if◌then◌else◌}
use Rattle.std.specs.Option.{option_map}
use Rattle.std.specs.FinMap as places
use Rattle.std.specs.List.{enumerate_from, flat_map}
use Rattle.l6_word.specs.Code.{char_of}
use Rattle.l6_word.specs.Numerals.{code_count}
use Rattle.l6_word.specs.Octal.{octal12}
use Rattle.l6_word.specs.Trying.{◌>>=◌}
use Rattle.l6_word.specs.Window.{Window}
use Rattle.l6_group.specs.declared.label.Label.{Label}
use Rattle.l6_prog.specs.Numerals.{name_count}
use Rattle.l6_prog.specs.declared.condition.Comparison.{Comparison}
use Rattle.l6_prog.specs.declared.condition.Comparison.TheVariants.{Equal, NotEqual, Greater, Less, AllOnes, AllZeros}
use Rattle.l6_prog.specs.declared.condition.Test.{Test}
use Rattle.l6_prog.specs.declared.operand.Operand.{Operand}
use Rattle.l6_prog.specs.declared.operand.Operand.TheVariants.{Chain, Number}
use Rattle.l6_history.specs.Stop.{word_of}
use Rattle.l6_history.specs.declared.watched.BlockWord.{BlockWord}
use Rattle.l6_history.specs.declared.watched.Watched.{Watched}
use Rattle.l6_history.specs.declared.watched.Watched.TheVariants.{Chain as WatchedChain, Word as WatchedWord}
use Rattle.l6_steps.specs.Locus.{content, field_at, read}
use Rattle.l6_steps.specs.declared.locus.Locus.TheVariants.{Bug}
use Rattle.l6_steps.specs.declared.position.Position.{Position}
use Rattle.l6_steps.specs.declared.returns.Return.{Return}
use Rattle.l6_steps.specs.State.{Memory, State}
use Rattle.l6_steps.specs.declared.trap.Trap.{Trap}
use Rattle.l6_steps.specs.declared.trap.Trap.TheVariants.{UndefinedField, NotABlock}
use Rattle.l6_draw.specs.Drawing.{character_of}

-- the names of a chain
abbrev pub chain_text : List ℕ → List ℕ
chain_text names = map character_of names

-- the digit or the letter of a name, if there is one of this number
abbrev pub name_text : ℕ → List ℕ
name_text number = if nat_lt number name_count then character_of number ∷ [] else []

-- the character of a word whose code begins so many bits from its right end; a word has six
abbrev pub character_at : ℕ → ℕ → ℕ
character_at word shift = char_of (word / 2 ^ shift % code_count)

abbrev pub characters : ℕ → List ℕ
characters word =
    character_at word 30 ∷ character_at word 24 ∷ character_at word 18 ∷ character_at word 12
    ∷ character_at word 6 ∷ character_at word 0 ∷ []

-- a word in decimal, in octal, and as its characters
abbrev pub word_text : ℕ → List ℕ
word_text word =
    decimal word ++ codes " " ++ octal12 word ++ codes " \"" ++ characters word ++ codes "\""

-- the block of so many words at a place, if one begins there
abbrev pub block_text : ℕ → Option ℕ → List ℕ
block_text place None = []
block_text place (Some size) =
    codes " -> BLOCK " ++ decimal place ++ codes " SIZE " ++ decimal size

-- a word, and the block to which it leads as a link
abbrev pub value_line : Memory → ℕ → List ℕ
value_line memory word =
    word_text word ++ block_text word (option_map length (places.get memory.blocks word))
    ++ codes "\n"

-- the last label, in the order of the cards, whose statement is not after this one
abbrev pub nearest_from : Option (Label × ℕ) → ℕ → List (Label × ℕ) → Option (Label × ℕ)
nearest_from found statement [] = found
nearest_from found statement (label ∷ labels) =
    nearest_from (if nat_le label.1 statement then Some label else found) statement labels

-- how many statements one is after another, if it is
abbrev pub after_text : ℕ → ℕ → List ℕ
after_text from statement =
    if nat_lt from statement then codes "+" ++ decimal (statement - from) else []

-- that label, and how many statements after it this one is
abbrev pub beside : ℕ → Option (Label × ℕ) → List ℕ
beside statement None = []
beside statement (Some (label, number)) = codes " " ++ label ++ after_text number statement

abbrev pub label_text : List (Label × ℕ) → ℕ → List ℕ
label_text labels statement = beside statement (nearest_from None statement labels)

-- a statement and its action, with the label
abbrev pub position_text : List (Label × ℕ) → Position → List ℕ
position_text labels at =
    decimal at.statement ++ codes "." ++ decimal at.action ++ label_text labels at.statement

-- what is said of a statement
abbrev pub statement_line : List ℕ → List (Label × ℕ) → ℕ → List ℕ
statement_line said labels statement =
    said ++ decimal statement ++ label_text labels statement ++ codes "\n"

-- a test, as a card has it
abbrev pub comparison_text : Comparison → List ℕ
comparison_text Equal = codes "E"
comparison_text NotEqual = codes "N"
comparison_text Greater = codes "G"
comparison_text Less = codes "L"
comparison_text AllOnes = codes "O"
comparison_text AllZeros = codes "Z"

abbrev pub compared_text : Operand → List ℕ
compared_text (Number word) = decimal word
compared_text (Chain chain) = chain_text chain

abbrev pub test_text : Test → List ℕ
test_text test =
    codes "(" ++ chain_text test.chain ++ codes "," ++ comparison_text test.comparison ++ codes ","
    ++ compared_text test.operand ++ codes ")"

-- the test of a breakpoint, if it has one
abbrev pub if_text : Option Test → List ℕ
if_text None = []
if_text (Some test) = codes " if " ++ test_text test

-- what is said of a statement's breakpoint
abbrev pub breakpoint_line : List ℕ → List (Label × ℕ) → ℕ → Option Test → List ℕ
breakpoint_line said labels statement test =
    said ++ decimal statement ++ label_text labels statement ++ if_text test ++ codes "\n"

-- a definition: its word, its first bit and its last
abbrev pub window_text : Option Window → List ℕ
window_text None = codes "not defined"
window_text (Some window) =
    decimal window.word ++ codes " " ++ decimal window.first ++ codes " " ++ decimal window.last

abbrev pub content_line : ℕ → List ℕ
content_line word = codes "  " ++ word_text word ++ codes "\n"

abbrev pub definition_line : Option Window → List ℕ
definition_line definition = codes "  " ++ window_text definition ++ codes "\n"

-- a line of a word and a number
abbrev pub count_line : List ℕ → ℕ → List ℕ
count_line counted number = counted ++ decimal number ++ codes "\n"

-- how many contents and definitions are saved, each with a line for each of them, the latest first
abbrev pub saved_text : Memory → List ℕ
saved_text memory =
    count_line (codes "CONTENTS ") (length memory.saved_contents)
    ++ flat_map content_line memory.saved_contents
    ++ count_line (codes "DEFINITIONS ") (length memory.saved_definitions)
    ++ flat_map definition_line memory.saved_definitions

-- where a call goes on that returns by FAIL, if it has a label for that
abbrev pub fail_text : List (Label × ℕ) → Option ℕ → List ℕ
fail_text labels None = []
fail_text labels (Some statement) =
    codes ", or by FAIL to " ++ decimal statement ++ label_text labels statement

-- the line of a call that waits, by its number: where it goes on
abbrev pub return_line : List (Label × ℕ) → ℕ × Return → List ℕ
return_line labels call =
    codes "#" ++ decimal call.0 ++ codes " returns to " ++ position_text labels call.1.at
    ++ fail_text labels call.1.fail ++ codes "\n"

-- where a state is, and the calls that wait, the latest first, numbered from 1 on
abbrev pub here_line : List (Label × ℕ) → State → List ℕ
here_line labels state = codes "#0 at " ++ position_text labels state.at ++ codes "\n"

abbrev pub waiting_text : List (Label × ℕ) → State → List ℕ
waiting_text labels state =
    here_line labels state ++ flat_map (return_line labels) (enumerate_from 1 state.memory.returns)

-- no more than so many lines of this, and how many more calls wait
abbrev pub more_text : ℕ → List ℕ
more_text further =
    if further == 0 then [] else codes "and " ++ decimal further ++ codes " more\n"

abbrev pub few_text : ℕ → List (Label × ℕ) → State → List ℕ
few_text lines labels state =
    here_line labels state
    ++ flat_map (return_line labels) (enumerate_from 1 (take (lines - 1) state.memory.returns))
    ++ more_text (length state.memory.returns - (lines - 1))

-- what a field shows of the block at a pointer, if it can be followed
abbrev pub followed : Memory → ℕ → ℕ → Result ℕ Trap
followed memory field pointer = do
  at ← field_at memory field pointer
  Ok (content memory at)

-- why a field can't be followed from a pointer on, to which the names before it lead
abbrev pub undefined_text : ℕ → List ℕ
undefined_text field = codes "the field " ++ chain_text (field ∷ []) ++ codes " is not defined\n"

abbrev pub link_text : ℕ → List ℕ
link_text pointer =
    if pointer == 0 then codes ", which is no block: it was never set, or was set to 0\n"
    else codes ", where no block begins: it holds no link, or the block there was freed\n"

abbrev pub no_block_text : List ℕ → ℕ → List ℕ
no_block_text front pointer =
    chain_text front ++ codes " is " ++ decimal pointer ++ link_text pointer

abbrev pub outside_text : ℕ → ℕ → List ℕ
outside_text field pointer =
    codes "the word of the field " ++ chain_text (field ∷ [])
    ++ codes " is past the end of the block at " ++ decimal pointer ++ codes "\n"

abbrev pub break_text : List ℕ → ℕ → ℕ → Trap → List ℕ
break_text front field pointer UndefinedField = undefined_text field
break_text front field pointer NotABlock = no_block_text front pointer
break_text front field pointer other = outside_text field pointer

-- the first of these fields that can't be followed, and why, where the names before them lead to a
-- pointer
abbrev pub broken_at : List ℕ → ℕ → ℕ → Result ℕ Trap → (ℕ → List ℕ) → List ℕ
broken_at front field pointer (Err trap) further = break_text front field pointer trap
broken_at front field pointer (Ok word) further = further word

abbrev pub broken_from : Memory → List ℕ → ℕ → List ℕ → List ℕ
broken_from memory front pointer [] = []
broken_from memory front pointer (field ∷ fields) =
    broken_at front field pointer (followed memory field pointer)
    (λ word. broken_from memory (front ++ field ∷ []) word fields)

abbrev pub broken_text : Memory → List ℕ → List ℕ
broken_text memory [] = []
broken_text memory (bug ∷ fields) =
    broken_from memory (bug ∷ []) (content memory (Bug bug)) fields

abbrev pub unfollowed_text : Memory → List ℕ → List ℕ
unfollowed_text memory chain = codes " can't be followed: " ++ broken_text memory chain

-- what a chain reads as, or why it can't be followed
abbrev pub read_text : Memory → List ℕ → Result ℕ Trap → List ℕ
read_text memory chain (Ok word) = codes " = " ++ value_line memory word
read_text memory chain (Err trap) = unfollowed_text memory chain

abbrev pub chain_line : Memory → List ℕ → List ℕ
chain_line memory chain =
    chain_text chain ++ read_text memory chain (read memory (Chain chain))

-- what is printed of a number, and of a chain
abbrev pub operand_text : Memory → Operand → List ℕ
operand_text memory (Number word) = value_line memory word
operand_text memory (Chain chain) = chain_line memory chain

-- the line of a chain of this number, and what it reads as
abbrev pub numbered_line : Memory → List ℕ → ℕ → List ℕ → List ℕ
numbered_line memory verb number chain =
    verb ++ decimal number ++ codes ": " ++ chain_line memory chain

-- a word of the block at a place, and what is watched, as they are typed
abbrev pub further_word : ℕ → List ℕ
further_word word = if word == 0 then [] else codes "+" ++ decimal word

abbrev pub word_name : BlockWord → List ℕ
word_name at = codes "*" ++ decimal at.place ++ further_word at.word

abbrev pub watched_name : Watched → List ℕ
watched_name (WatchedChain chain) = chain_text chain
watched_name (WatchedWord at) = word_name at

-- what a word of a block reads as, or why it can't be read
abbrev pub no_word_text : Memory → ℕ → List ℕ
no_word_text memory place =
    if places.contains_key memory.blocks place
    then codes " can't be read: the block there has no such word\n"
    else codes " can't be read: no block begins there\n"

abbrev pub word_read_text : Memory → ℕ → Option ℕ → List ℕ
word_read_text memory place None = no_word_text memory place
word_read_text memory place (Some word) = codes " = " ++ value_line memory word

abbrev pub block_word_line : Memory → BlockWord → List ℕ
block_word_line memory at = word_name at ++ word_read_text memory at.place (word_of memory at)

-- what is watched, and what it reads as
abbrev pub watched_line : Memory → Watched → List ℕ
watched_line memory (WatchedChain chain) = chain_line memory chain
watched_line memory (WatchedWord at) = block_word_line memory at

abbrev pub numbered_watch : Memory → ℕ → Watched → List ℕ
numbered_watch memory number watched =
    codes "watch " ++ decimal number ++ codes ": " ++ watched_line memory watched
