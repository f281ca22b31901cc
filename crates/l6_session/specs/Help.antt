-- What help says of commands.
use Rattle.std.specs.Prelude.{ℕ, ◌-◌, List, [], ◌∷◌, ◌++◌, codes, length, replicate}
use Rattle.std.specs.Str.{byte}
use Rattle.l6_session.specs.Command.{Row, row_of, verbs}
use Rattle.l6_session.specs.Numerals.{cell_places, usage_places}
use Rattle.l6_session.specs.declared.command.Verb.{Verb}

-- how a command is written, and what it does
abbrev pub sentence_of : Row → List ℕ
sentence_of row = row.usage ++ codes ": " ++ row.sentence ++ codes ".\n"

abbrev pub sentence_text : Verb → List ℕ
sentence_text verb = sentence_of (row_of verb)

-- a text, and blanks up to so many places
abbrev pub padded : ℕ → List ℕ → List ℕ
padded places text = text ++ replicate (places - length text) (byte " ")

-- a command in the list: how it is written, and in a few words what it does
abbrev pub cell_of : Row → List ℕ
cell_of row = padded usage_places row.usage ++ row.line

abbrev pub cell_text : Verb → List ℕ
cell_text verb = cell_of (row_of verb)

-- a line of two commands
abbrev pub first_text : Verb → List ℕ
first_text verb = padded cell_places (cell_text verb)

abbrev pub line_text : Verb → Verb → List ℕ
line_text one other = codes " " ++ first_text one ++ cell_text other ++ codes "\n"

-- the list, two commands on a line
abbrev pub listed : List Verb → List ℕ
listed [] = []
listed (one ∷ []) = codes " " ++ cell_text one ++ codes "\n"
listed (one ∷ other ∷ others) = line_text one other ++ listed others

abbrev pub help_text : List ℕ
help_text =
    codes "Commands may be abbreviated as shown. An empty line repeats the last one.\n"
    ++ listed verbs
    ++ codes "PLACE is a label, the number of a statement, or : and the number of a card.\n"
