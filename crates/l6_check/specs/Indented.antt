-- Labels that stand in another column than 1.
use Rattle.std.specs.Prelude.{ℕ, ◌+◌, ◌==◌, List, [], ◌∷◌, length, take, Option, Some, None, if◌then◌else◌}
use Rattle.l6_word.specs.Lines.{lines_of}
use Rattle.l6_group.specs.declared.label.Label.{Label}
use Rattle.l6_group.specs.Label.{label_of}
use Rattle.l6_card.specs.Card.{columns_of}
use Rattle.l6_card.specs.ReadAlone.{objection_to_lines}
use Rattle.l6_card.specs.declared.objection.Objection.{Objection}
use Rattle.l6_card.specs.declared.objection.Reason.{Reason}
use Rattle.l6_card.specs.declared.objection.Reason.TheVariants.{NoCondition}
use Rattle.l6_check.specs.Labels.{labels_given, with_label}
use Rattle.l6_check.specs.Statements.{parts_of}
use Rattle.l6_check.specs.Warnings.{begin_blank}

-- the label that so many columns spell, if the first one is blank
abbrev pub label_in_front : List ℕ → ℕ → Option Label
label_in_front columns count = if begin_blank columns then label_of (take count columns) else None

-- the label before the columns that object, on their card; the first of these lines is the card of this
-- number
abbrev pub label_on_card : Objection → ℕ → List (List ℕ) → Option Label
label_on_card objection card [] = None
label_on_card objection card (line ∷ lines) =
    if card == objection.card then label_in_front (columns_of line) objection.from
    else label_on_card objection (card + 1) lines

-- a group after a first word that is no condition objects: the word may be a label that is meant to be given
abbrev pub label_for : Reason → Option Label → Option Label
label_for NoCondition label = label
label_for other label = None

abbrev pub label_before : Objection → ℕ → List (List ℕ) → Option Label
label_before objection card lines = label_for objection.reason (label_on_card objection card lines)

-- the label that a part means to give, of which the first line is the card of this number
abbrev pub label_if_met : Option Objection → ℕ → List (List ℕ) → Option Label
label_if_met None card part = None
label_if_met (Some objection) card part = label_before objection card part

abbrev pub indented_label : ℕ → List (List ℕ) → Option Label
indented_label card part = label_if_met (objection_to_lines card part) card part

-- labels, and those that parts mean to give, of which the first begins with the card of this number
abbrev pub with_indented : List (Label × ℕ) → ℕ → List (List (List ℕ)) → List (Label × ℕ)
with_indented given card [] = given
with_indented given card (part ∷ parts) =
    with_indented (with_label given card (indented_label card part)) (card + length part) parts

-- the labels that the cards of a deck give or mean to give
abbrev pub labels_meant : List ℕ → List (Label × ℕ)
labels_meant deck = with_indented (labels_given deck) 1 (parts_of (lines_of deck))
