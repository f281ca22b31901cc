-- What cards are warned of.
use Rattle.std.specs.Prelude.{ℕ, ◌+◌, ◌==◌, not, ◌&&◌, Bool, true, false, List, [], ◌∷◌, ◌++◌, drop, length, is_some, if◌then◌else◌, Option, Some, None}
use Rattle.std.specs.List.{list_all}
use Rattle.std.specs.Str.{byte}
use Rattle.l6_word.specs.Lines.{lines_of, without_return}
use Rattle.l6_group.specs.Character.{is_blank}
use Rattle.l6_group.specs.declared.label.Label.{Label}
use Rattle.l6_group.specs.Word.{condition_from}
use Rattle.l6_card.specs.Numerals.{card_width}
use Rattle.l6_card.specs.Card.{columns_of}
use Rattle.l6_check.specs.Labels.{label_on_line}
use Rattle.l6_check.specs.declared.finding.Finding.{Finding}
use Rattle.l6_check.specs.declared.reason.Reason.{Reason}
use Rattle.l6_check.specs.declared.reason.Reason.TheVariants.{Warning}
use Rattle.l6_check.specs.declared.reason.WarningReason.TheVariants.{PastColumns, LabelIsCondition}

-- columns are those of a comment
abbrev pub is_comment : List ℕ → Bool
is_comment [] = false
is_comment (column ∷ columns) = column == byte "*"

-- what a line has past the columns that count
abbrev pub past_of : List ℕ → List ℕ
past_of line = drop card_width (without_return line)

-- columns begin with a blank
abbrev pub begin_blank : List ℕ → Bool
begin_blank [] = false
begin_blank (column ∷ columns) = is_blank column

-- how many blanks columns begin with
abbrev pub blanks_before : List ℕ → ℕ
blanks_before [] = 0
blanks_before (column ∷ columns) = if is_blank column then blanks_before columns + 1 else 0

-- how many columns of a line are before what is past those that count
abbrev pub past_start : List ℕ → ℕ
past_start line = length (columns_of line) + blanks_before (past_of line)

-- the line is no comment, and has something past the columns that count
abbrev pub has_past : List ℕ → Bool
has_past line = not (is_comment (columns_of line)) && not (list_all is_blank (past_of line))

-- this card, if a test holds
abbrev pub card_if : Bool → ℕ → List ℕ
card_if true card = card ∷ []
card_if false card = []

-- the cards of lines that pass a test; the first has this number
abbrev pub cards_where : (List ℕ → Bool) → ℕ → List (List ℕ) → List ℕ
cards_where test number [] = []
cards_where test number (line ∷ lines) =
    card_if (test line) number ++ cards_where test (number + 1) lines

-- the cards of a deck that have something there
abbrev pub past_cards : List ℕ → List ℕ
past_cards deck = cards_where has_past 1 (lines_of deck)

-- the card that a finding says to have something there
abbrev pub past_said : ℕ → Reason → Option ℕ
past_said card (Warning PastColumns) = Some card
past_said card _ = None

abbrev pub past_card : Finding → Option ℕ
past_card finding = past_said finding.card finding.reason

-- the line gives a label that is spelled as a condition is
abbrev pub is_condition : Option Label → Bool
is_condition None = false
is_condition (Some label) = is_some (condition_from label)

abbrev pub gives_condition : List ℕ → Bool
gives_condition line = is_condition (label_on_line line)

-- the cards of a deck that give such a label
abbrev pub condition_cards : List ℕ → List ℕ
condition_cards deck = cards_where gives_condition 1 (lines_of deck)

-- the card that a finding says to give such a label
abbrev pub condition_said : ℕ → Reason → Option ℕ
condition_said card (Warning LabelIsCondition) = Some card
condition_said card _ = None

abbrev pub condition_card : Finding → Option ℕ
condition_card finding = condition_said finding.card finding.reason
