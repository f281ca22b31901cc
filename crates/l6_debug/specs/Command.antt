-- How the debugger reads the lines of its commands.
use Rattle.std.specs.Prelude.{ℕ, nat_le, nat_lt, List, [], ◌∷◌, filter, length, Option, Some, None, unwrap_or, if◌then◌else◌}
use Rattle.std.specs.List.{slice_split}
use Rattle.l6_word.specs.Lines.{without_return}
use Rattle.l6_group.specs.Character.{is_blank, spelled}
use Rattle.l6_group.specs.Number.{decimal_of}
use Rattle.l6_group.specs.Spelling.{Line, ◌means◌, find_spelled, ◌>>=◌}
use Rattle.l6_debug.specs.declared.command.Command.{Command}
use Rattle.l6_debug.specs.declared.command.Command.TheVariants.{Step, Go, Back, Break, Clear, Show, Fields, Block, Draw, Store, Out}
use Rattle.l6_debug.specs.declared.command.Reading.{Reading}
use Rattle.l6_debug.specs.declared.command.Reading.TheVariants.{Skipped, Wrong, Quit, Asked}
use Rattle.l6_debug.specs.Numerals.{most_number}

-- the words of a line are between its blanks and tabs
abbrev pub words_in : List ℕ → List (List ℕ)
words_in line = filter (λ word. nat_lt 0 (length word)) (slice_split is_blank line)

-- what words ask for that are alone
abbrev pub words_alone : List (Line Reading)
words_alone =
    "GO" means Asked Go
    ∷ "SHOW" means Asked Show
    ∷ "FIELDS" means Asked Fields
    ∷ "DRAW" means Asked Draw
    ∷ "STORE" means Asked Store
    ∷ "OUT" means Asked Out
    ∷ "QUIT" means Quit
    ∷ []

-- what words ask for that a number follows
abbrev pub words_with_number : List (Line (ℕ → Command))
words_with_number =
    "STEP" means Step
    ∷ "BACK" means Back
    ∷ "BREAK" means Break
    ∷ "CLEAR" means Clear
    ∷ "BLOCK" means Block
    ∷ []

-- what one word asks for
abbrev pub reading_alone : List ℕ → Option Reading
reading_alone verb = find_spelled words_alone (spelled verb)

-- the number that digits write, if it is no greater than a command may give
abbrev pub if_allowed : ℕ → Option ℕ
if_allowed number = if nat_le number most_number then Some number else None

abbrev pub number_of : List ℕ → Option ℕ
number_of digits = decimal_of digits >>= if_allowed

-- what a word and a number ask for
abbrev pub command_with : List ℕ → List ℕ → Option Command
command_with verb digits = do
  command ← find_spelled words_with_number (spelled verb)
  number ← number_of digits
  Some (command number)

abbrev pub asked_or_wrong : Option Command → Reading
asked_or_wrong (Some command) = Asked command
asked_or_wrong None = Wrong

-- a line without words is skipped; what no table has is no command
abbrev pub reading_from : List (List ℕ) → Reading
reading_from [] = Skipped
reading_from (verb ∷ []) = unwrap_or (reading_alone verb) Wrong
reading_from (verb ∷ digits ∷ []) = asked_or_wrong (command_with verb digits)
reading_from (verb ∷ digits ∷ more ∷ others) = Wrong

-- what a line of commands is
abbrev pub reading_of : List ℕ → Reading
reading_of line = reading_from (words_in (without_return line))
