-- What a state holds, as an editor lists it: bugs, fields, blocks, what is saved, and the parts of blocks.
use Rattle.std.specs.Prelude.{ℕ, ◌+◌, ◌-◌, nat_lt, List, [], ◌∷◌, ◌++◌, length, map, take, codes, decimal, Option, Some, None, slice_get, if◌then◌else◌}
use Rattle.std.specs.List.{cons_option}
use Rattle.l6_draw.specs.Drawing.{character_of}
use Rattle.l6_draw.specs.Reach.{reached_places}
use Rattle.l6_prog.specs.Numerals.{first_letter}
use Rattle.l6_steps.specs.State.{Memory}
use Rattle.l6_store.specs.Blocks.{block_at}
use Rattle.l6_word.specs.Octal.{octal12}
use Rattle.l6_word.specs.Window.{Window, take as shown_in}
use Rattle.l6_dap.specs.Numerals.{most_listed}
use Rattle.l6_dap.specs.declared.nodes.Node.{Node}
use Rattle.l6_dap.specs.declared.nodes.Node.TheVariants as node

-- what is shown of a variable: a word, with the chain that reads it, or no name where none is known; or a text
pub data Shown : Type 0 where
  word : ℕ → List ℕ → Shown
  text : List ℕ → Shown

pub record Variable : Type 0 where
  pub name : List ℕ
  pub shown : Shown

-- the variable of a word that a chain of one name reads
abbrev pub word_named : List ℕ → List ℕ → ℕ → Variable
word_named name chain content = record { name = name; shown = word content chain }

abbrev pub text_named : List ℕ → List ℕ → Variable
text_named name said = record { name = name; shown = text said }

-- the character of a name, and a number in decimal
abbrev pub named : ℕ → List ℕ
named number = character_of number ∷ []

abbrev pub numbered : ℕ → List ℕ
numbered number = decimal number

-- the bugs, from the one of this number on
abbrev pub bugs_from : ℕ → List ℕ → List Variable
bugs_from number [] = []
bugs_from number (content ∷ others) =
    word_named (named number) (named number) content ∷ bugs_from (number + 1) others

-- the fields that are defined, and as which bits of which word
abbrev pub window_text : Window → List ℕ
window_text window =
    codes "word " ++ decimal window.word ++ codes ", bits " ++ decimal window.first ++ codes " to "
    ++ decimal window.last

abbrev pub field : ℕ → Option Window → Option Variable
field number None = None
field number (Some window) = Some (text_named (named number) (window_text window))

abbrev pub fields_from : ℕ → List (Option Window) → List Variable
fields_from number [] = []
fields_from number (window ∷ others) =
    cons_option (field number window) (fields_from (number + 1) others)

-- the blocks that are reached, the first of them where there are many
abbrev pub blocks_at : List ℕ → List Variable
blocks_at places = map (λ place. word_named (numbered place) [] place) places

abbrev pub further : ℕ → List Variable
further count =
    if nat_lt most_listed count
    then text_named (codes "..") (decimal (count - most_listed) ++ codes " more blocks") ∷ [] else []

abbrev pub blocks_of : List ℕ → List Variable
blocks_of reached = blocks_at (take most_listed reached) ++ further (length reached)

-- what is saved, the latest first: the first that was saved has the number 0
abbrev pub contents_of : List ℕ → List Variable
contents_of [] = []
contents_of (content ∷ others) =
    word_named (numbered (length others)) [] content ∷ contents_of others

abbrev pub definition_text : Option Window → List ℕ
definition_text None = codes "not defined"
definition_text (Some window) = window_text window

abbrev pub definitions_of : List (Option Window) → List Variable
definitions_of [] = []
definitions_of (definition ∷ others) =
    text_named (numbered (length others)) (definition_text definition) ∷ definitions_of others

-- the chain that goes on from another one by a field, where that is known
abbrev pub longer : List ℕ → ℕ → List ℕ
longer [] name = []
longer (first ∷ others) name = first ∷ others ++ character_of name ∷ []

-- the fields that are defined in a block, which a chain leads to
abbrev pub part_in : List ℕ → ℕ → Window → Option ℕ → Option Variable
part_in chain number window None = None
part_in chain number window (Some content) =
    Some (word_named (named number) (longer chain number) (shown_in window content))

abbrev pub part : List ℕ → List ℕ → ℕ → Option Window → Option Variable
part block chain number None = None
part block chain number (Some window) = part_in chain number window (slice_get block window.word)

abbrev pub parts_from : List ℕ → List ℕ → ℕ → List (Option Window) → List Variable
parts_from block chain number [] = []
parts_from block chain number (window ∷ others) =
    cons_option (part block chain number window) (parts_from block chain (number + 1) others)

-- and its words, from the one of this index on
abbrev pub words_from : ℕ → List ℕ → List Variable
words_from index [] = []
words_from index (content ∷ others) =
    text_named (codes "word " ++ decimal index) (octal12 content) ∷ words_from (index + 1) others

-- what a block of these words holds, to which a chain leads
abbrev pub block_parts : List ℕ → List (Option Window) → List ℕ → List Variable
block_parts chain definitions block = parts_from block chain 0 definitions ++ words_from 0 block

-- the names of a chain, where one is known
abbrev pub names_of : Option (List ℕ) → List ℕ
names_of None = []
names_of (Some chain) = map character_of chain

-- the variables of a node
abbrev pub variables_of : Memory → Node → List Variable
variables_of memory node.Bugs = bugs_from first_letter memory.bugs
variables_of memory node.Fields = fields_from 0 memory.definitions
variables_of memory node.Blocks = blocks_of (reached_places memory)
variables_of memory node.Contents = contents_of memory.saved_contents
variables_of memory node.Definitions = definitions_of memory.saved_definitions
variables_of memory (node.Block place chain) =
    block_parts (names_of chain) memory.definitions (block_at memory.blocks place)
