-- What `info` shows, by gdb's names for it.
use Rattle.std.specs.Prelude.{ℕ, List, [], ◌∷◌, Option}
use Rattle.std.specs.Option.{option_or}
use Rattle.l6_group.specs.Spelling.{Line, ◌means◌, find_spelled}
use Rattle.l6_session.specs.declared.command.Verb.{Verb}
use Rattle.l6_session.specs.declared.command.Verb.TheVariants.{Info, Checkpoints, Stats, Show, Fields, Where, List as ListCards}

abbrev pub info_of_stops : List (Line Verb)
info_of_stops =
    "BREAKPOINTS" means Info
    ∷ "BREAK" means Info
    ∷ "B" means Info
    ∷ "WATCHPOINTS" means Info
    ∷ "WATCH" means Info
    ∷ "DISPLAY" means Info
    ∷ "CHECKPOINTS" means Checkpoints
    ∷ "PROGRAM" means Stats
    ∷ []

abbrev pub info_of_bugs : List (Line Verb)
info_of_bugs =
    "LOCALS" means Show
    ∷ "VARIABLES" means Show
    ∷ "ARGS" means Show
    ∷ "REGISTERS" means Show
    ∷ "REG" means Show
    ∷ "R" means Show
    ∷ "FIELDS" means Fields
    ∷ "TYPES" means Fields
    ∷ []

abbrev pub info_of_calls : List (Line Verb)
info_of_calls =
    "FRAME" means Where
    ∷ "F" means Where
    ∷ "STACK" means Where
    ∷ "S" means Where
    ∷ "LINE" means ListCards
    ∷ "SOURCE" means ListCards
    ∷ []

-- the command that shows what a word names
abbrev pub topic_of : List ℕ → Option Verb
topic_of word =
    option_or (find_spelled info_of_stops word)
    (option_or (find_spelled info_of_bugs word) (find_spelled info_of_calls word))
