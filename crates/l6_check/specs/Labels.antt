-- The labels that cards give.
use Rattle.std.specs.Prelude.{ℕ, ◌+◌, List, [], ◌∷◌, ◌++◌, Option, Some, None, is_some, if◌then◌else◌}
use Rattle.std.specs.Map.{lookup}
use Rattle.std.specs.Str.{bytes_eq}
use Rattle.l6_word.specs.Lines.{lines_of}
use Rattle.l6_group.specs.declared.label.Label.{Label}
use Rattle.l6_group.specs.Label.{label_of}
use Rattle.l6_card.specs.Card.{Card, labelled, card_of, columns_of}
use Rattle.l6_check.specs.declared.finding.Finding.{Finding}
use Rattle.l6_check.specs.declared.reason.Reason.{Reason}
use Rattle.l6_check.specs.declared.reason.Reason.TheVariants.{TwiceLabelled}

-- the label that a card gives its statement
abbrev pub label_in : Card → Option Label
label_in (labelled columns body) = label_of columns
label_in _ = None

-- the label that the card of a line gives: its number and its offset change nothing
abbrev pub label_on_line : List ℕ → Option Label
label_on_line line = label_in (card_of 1 0 (columns_of line))

-- the card that gives a label first, among labels with the cards that give them first
abbrev pub first_card : List (Label × ℕ) → Label → Option ℕ
first_card given label = lookup (bytes_eq label) given

-- those labels with that of this card, if it gives one that is new
abbrev pub with_label : List (Label × ℕ) → ℕ → Option Label → List (Label × ℕ)
with_label given card None = given
with_label given card (Some label) =
    if is_some (first_card given label) then given else given ++ (label, card) ∷ []

-- those labels with those of further lines, of which the first is the card of this number
abbrev pub labels_after : List (Label × ℕ) → ℕ → List (List ℕ) → List (Label × ℕ)
labels_after given card [] = given
labels_after given card (line ∷ lines) =
    labels_after (with_label given card (label_on_line line)) (card + 1) lines

-- the labels that the cards of a deck give, each with the card that gives it first
abbrev pub labels_given : List ℕ → List (Label × ℕ)
labels_given deck = labels_after [] 1 (lines_of deck)

-- this card, with the earlier one that gives its label, if there is one
abbrev pub twice_with : ℕ → Option ℕ → List (ℕ × ℕ)
twice_with card None = []
twice_with card (Some first) = (card, first) ∷ []

abbrev pub twice_on : List (Label × ℕ) → ℕ → Option Label → List (ℕ × ℕ)
twice_on given card None = []
twice_on given card (Some label) = twice_with card (first_card given label)

-- the cards of lines that give a label which an earlier card gives, each with that card
abbrev pub twice_after : List (Label × ℕ) → ℕ → List (List ℕ) → List (ℕ × ℕ)
twice_after given card [] = []
twice_after given card (line ∷ lines) =
    twice_on given card (label_on_line line)
    ++ twice_after (with_label given card (label_on_line line)) (card + 1) lines

-- the cards of a deck that give a label which an earlier card gives, each with that card
abbrev pub twice_labelled : List ℕ → List (ℕ × ℕ)
twice_labelled deck = twice_after [] 1 (lines_of deck)

-- the cards that a finding names: its own, and the one that gives its label first
abbrev pub twice_on_card : ℕ → Reason → Option (ℕ × ℕ)
twice_on_card card (TwiceLabelled first) = Some (card, first)
twice_on_card card _ = None

abbrev pub twice_said : Finding → Option (ℕ × ℕ)
twice_said finding = twice_on_card finding.card finding.reason
