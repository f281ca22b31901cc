-- The parts of a job, by the lines that separate them.
use Rattle.std.specs.Prelude.{ℕ, ◌==◌, ◌-◌, ◌&&◌, Bool, List, [], ◌∷◌, ◌++◌, length, map, take, drop, slice_index, codes, if◌then◌else◌}
use Rattle.std.specs.List.{list_all, onto_first}
use Rattle.std.specs.Str.{byte, bytes_eq}
use Rattle.l6_word.specs.Code.{character_of}
use Rattle.l6_word.specs.Lines.{without_return}
use Rattle.l6_group.specs.Character.{is_blank}

-- the lines of a text as they are there: each with the line feed that ends it, which the last one may
-- lack
unfoldable pub whole_lines : List ℕ → List (List ℕ)
whole_lines [] = []
whole_lines (first ∷ rest) =
    if first == byte "\n" then (first ∷ []) ∷ whole_lines rest
    else onto_first first (whole_lines rest)

-- the text that such lines make
unfoldable pub text_of_lines : List (List ℕ) → List ℕ
text_of_lines [] = []
text_of_lines (line ∷ lines) = line ++ text_of_lines lines

-- a line without the line feed that ends it
abbrev pub without_feed : List ℕ → List ℕ
without_feed line =
    if slice_index line (length line - 1) == byte "\n" then take (length line - 1) line else line

-- a line is read as a word: its characters are those of the word, with nothing but blanks after them
abbrev pub reads_as : List ℕ → List ℕ → Bool
reads_as word line =
    bytes_eq (map character_of (take (length word) line)) word
    && list_all is_blank (drop (length word) line)

-- a line separates a part, by the word of that separator
abbrev pub is_separator : List ℕ → List ℕ → Bool
is_separator word line = reads_as word (without_return (without_feed line))

-- a text in two: the lines before its first separator, and those after it
pub record TextHalves : Type 0 where
  pub before : List ℕ
  pub following : List ℕ

unfoldable pub halves : List ℕ → List (List ℕ) → TextHalves
halves word [] = record { before = []; following = [] }
halves word (line ∷ lines) =
    if is_separator word line then record { before = []; following = text_of_lines lines }
    else record (halves word lines) { before = line ++ (halves word lines).before }

-- the separator of an input
abbrev pub input_separator : List ℕ
input_separator = codes "$INPUT"

-- the head of a job, which is before the separator of its input, and the input, which follows it
abbrev pub head_of : List ℕ → List ℕ
head_of job = (halves input_separator (whole_lines job)).before

abbrev pub input_of : List ℕ → List ℕ
input_of job = (halves input_separator (whole_lines job)).following

-- the separator of commands, which is in the head of a job for the debugger
abbrev pub commands_separator : List ℕ
commands_separator = codes "$COMMANDS"

-- the deck in such a head, which is before that separator, and the commands, which follow it
abbrev pub deck_of : List ℕ → List ℕ
deck_of head = (halves commands_separator (whole_lines head)).before

abbrev pub commands_of : List ℕ → List ℕ
commands_of head = (halves commands_separator (whole_lines head)).following
