-- How commands name the statements of a deck: by their number, by their label, by how many statements they
-- are after a label, and by a card of theirs, whose number follows a colon.
use Rattle.std.specs.Prelude.{ℕ, ◌+◌, ◌==◌, nat_lt, List, [], ◌∷◌, Option, Some, None, if◌then◌else◌}
use Rattle.std.specs.Option.{option_or}
use Rattle.std.specs.Str.{byte}
use Rattle.l6_group.specs.declared.label.Label.{Label}
use Rattle.l6_group.specs.Label.{label_of}
use Rattle.l6_group.specs.Spelling.{◌>>=◌}
use Rattle.l6_word.specs.Lines.{lines_of}
use Rattle.l6_card.specs.Role.{role_of}
use Rattle.l6_marks.specs.Cards.{begun_with, statement_with}
use Rattle.l6_asm.specs.Labels as labels
use Rattle.l6_debug.specs.Command.{number_of}
use Rattle.l6_session.specs.Parted.{parted}

-- the labels of a deck with the numbers of their statements, its text, and how many statements its
-- program has
pub record Names : Type 0 where
  pub labels : List (Label × ℕ)
  pub deck : List ℕ
  pub statements : ℕ

-- the statement of the card of this number, where the first of these lines has the number after
-- `before`, and so many statements have begun before it
abbrev pub statement_on : ℕ → ℕ → ℕ → List (List ℕ) → Option ℕ
statement_on card before begun [] = None
statement_on card before begun (line ∷ lines) =
    if card == before + 1 then statement_with (role_of line) (begun_with (role_of line) begun)
    else statement_on card (before + 1) (begun_with (role_of line) begun) lines

abbrev pub statement_of_card : Names → List ℕ → Option ℕ
statement_of_card names (first ∷ digits) =
    if first == byte ":" then number_of digits >>= (λ card. statement_on card 0 0 (lines_of names.deck))
    else None
statement_of_card names [] = None

abbrev pub statement_of_label : Names → List ℕ → Option ℕ
statement_of_label names word = label_of word >>= labels.number_of names.labels

-- a word names a statement that the program has; digits are a number, also where a label is spelled
-- the same
abbrev pub if_statement : Names → ℕ → Option ℕ
if_statement names number = if nat_lt number names.statements then Some number else None

-- the statement that is so many statements after a label
abbrev pub statement_after : Names → List ℕ → List ℕ → Option ℕ
statement_after names label digits =
    statement_of_label names label
    >>= (λ from. number_of digits >>= (λ further. if_statement names (from + further)))

abbrev pub statement_of_whole : Names → List ℕ → Option ℕ
statement_of_whole names word =
    option_or (number_of word) (option_or (statement_of_card names word) (statement_of_label names word))
    >>= if_statement names

-- with a plus sign, a word names what is after a label
abbrev pub statement_by : Names → List ℕ → Option (List ℕ × List ℕ) → Option ℕ
statement_by names word None = statement_of_whole names word
statement_by names word (Some (label, digits)) = statement_after names label digits

abbrev pub statement_of : Names → List ℕ → Option ℕ
statement_of names word = statement_by names word (parted (byte "+") word)
