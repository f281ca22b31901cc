-- Labels that statements name and that no card gives.
use Rattle.std.specs.Prelude.{◌≡◌, ◌⊎◌, ℕ, ◌+◌, Bool, true, false, List, [], ◌∷◌, ◌++◌, length, take, option_to_list, is_some, All, Option, Some, None}
use Rattle.std.specs.List.{flat_map}
use Rattle.std.specs.Option.{option_map}
use Rattle.l6_word.specs.Lines.{lines_of}
use Rattle.l6_prog.specs.declared.operation.Op.{Op}
use Rattle.l6_prog.specs.declared.operation.Op.TheVariants.{Get, Duplicate, Call, Input}
use Rattle.l6_prog.specs.declared.exit.Exit.{Exit}
use Rattle.l6_prog.specs.declared.exit.Exit.TheVariants.{Label as ToLabel}
use Rattle.l6_group.specs.declared.label.Label.{Label}
use Rattle.l6_card.specs.declared.cards.Placed.{Placed}
use Rattle.l6_card.specs.declared.cards.PlacedLabel.{PlacedLabel}
use Rattle.l6_card.specs.Statement.{DeckStatementParts}
use Rattle.l6_card.specs.ReadAlone.{fault_of_lines, LinesReadAs}
use Rattle.l6_check.specs.Kept.{Say}
use Rattle.l6_check.specs.Labels.{first_card}
use Rattle.l6_check.specs.Near.{nearest}
use Rattle.l6_check.specs.Statements.{parts_of}
use Rattle.l6_check.specs.declared.finding.Finding.{Finding}
use Rattle.l6_check.specs.declared.findings.Findings.{Findings}
use Rattle.l6_check.specs.declared.reason.LabelText.{LabelText}
use Rattle.l6_check.specs.declared.reason.Reason.{Reason}
use Rattle.l6_check.specs.declared.reason.Reason.TheVariants.{NoLabel}

-- the labels that an operation names
abbrev pub labels_in : Op Label → List Label
labels_in (Get c v d label) = option_to_list label
labels_in (Duplicate c v label) = option_to_list label
labels_in (Call called fail) = called ∷ option_to_list fail
labels_in (Input c v label) = option_to_list label
labels_in other = []

-- this label with the card that names it, unless it is given
abbrev pub missing_unless : Bool → ℕ → Label → List (ℕ × Label)
missing_unless true card label = []
missing_unless false card label = (card, label) ∷ []

-- this label, if no card gives it, with the card that names it
abbrev pub missing_if : List (Label × ℕ) → ℕ → Label → List (ℕ × Label)
missing_if given card label = missing_unless (is_some (first_card given label)) card label

-- the labels of a group that no card gives, each with the group's card
abbrev pub missing_in_group : List (Label × ℕ) → Placed (Op Label) → List (ℕ × Label)
missing_in_group given group = flat_map (missing_if given group.card) (labels_in group.reading)

-- the label of an exit, if no card gives it, with its card
abbrev pub missing_in_exit : List (Label × ℕ) → Exit PlacedLabel → List (ℕ × Label)
missing_in_exit given (ToLabel named) = missing_if given named.card named.label
missing_in_exit given other = []

-- the labels that a statement names and that no card gives, each with its card
abbrev pub missing_in : List (Label × ℕ) → DeckStatementParts → List (ℕ × Label)
missing_in given statement =
    flat_map (missing_in_group given) statement.operations ++ missing_in_exit given statement.exit

-- these are the labels that a part names and no card gives: the part says some statements, and they are
-- those of these
pub record AreNamedIn (given : List (Label × ℕ)) (number : ℕ) (part : List (List ℕ))
    (things : List (ℕ × Label)) : Type 0 where
  pub statements : List DeckStatementParts
  pub reads : LinesReadAs number part statements
  pub named : things ≡ flat_map (missing_in given) statements

-- or the part has a fault, and they are none
pub record IsUnread (number : ℕ) (part : List (List ℕ)) (things : List (ℕ × Label)) : Type 0 where
  pub fault : is_some (fault_of_lines number part) ≡ true
  pub none : things ≡ []

abbrev pub MissingInPart : List (Label × ℕ) → ℕ → List (List ℕ) → List (ℕ × Label) → Type 0
MissingInPart given number part things =
    AreNamedIn given number part things ⊎ IsUnread number part things

-- these are those of parts, of which the first begins with the card of this number
abbrev pub MissingFrom : List (Label × ℕ) → ℕ → List (List (List ℕ)) → List (ℕ × Label) → Type 0
MissingFrom given number [] things = things ≡ []
MissingFrom given number (part ∷ parts) things =
    (here : List (ℕ × Label)) × (others : List (ℕ × Label)) × MissingInPart given number part here
    × MissingFrom given (number + length part) parts others × (things ≡ here ++ others)

-- the label that a text is
abbrev pub label_of_text : LabelText → Label
label_of_text text = take text.count text.characters

-- the card and the label that a finding says to be missing
abbrev pub missing_on : ℕ → Reason → Option (ℕ × Label)
missing_on card (NoLabel missing) = Some (card, label_of_text missing.label)
missing_on card other = None

abbrev pub missing_said : Finding → Option (ℕ × Label)
missing_said finding = missing_on finding.card finding.reason

-- the reason says what is nearly the label that is missing
abbrev pub SaysNearest : List (Label × ℕ) → Reason → Type 0
SaysNearest given (NoLabel missing) =
    option_map label_of_text missing.near ≡ nearest given (label_of_text missing.label)
SaysNearest given other = Unit {0}

-- each finding that is kept says it
abbrev pub AreNearest : List (Label × ℕ) → Findings → Type 0
AreNearest given findings = All (λ finding. SaysNearest given finding.reason) findings.kept.items

-- if each finding that was kept says it, each that is kept now says it, too
abbrev pub StayNearest : List (Label × ℕ) → Findings → Findings → Type 0
StayNearest given before after = AreNearest given before → AreNearest given after

-- the findings say just the labels that the statements of a deck name and that no card gives
pub record SayMissing (given : List (Label × ℕ)) (deck : List ℕ) (findings : Findings) : Type 0 where
  pub things : List (ℕ × Label)
  pub are : MissingFrom given 1 (parts_of (lines_of deck)) things
  pub said : Say missing_said things findings
