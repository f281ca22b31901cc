-- The labels of statements.
use Rattle.std.specs.Prelude.{ℕ, ◌+◌, List, [], ◌∷◌, ◌++◌, is_some, Option, Some, None, Result, Ok, Err, if◌then◌else◌}
use Rattle.std.specs.Map.{lookup}
use Rattle.std.specs.Str.{bytes_eq}
use Rattle.l6_group.specs.declared.label.Label.{Label}
use Rattle.l6_card.specs.declared.cards.PlacedLabel.{PlacedLabel}
use Rattle.l6_card.specs.Statement.{DeckStatementParts}
use Rattle.l6_asm.specs.AssemblyFault.{AssemblyFault, twice_labelled}

-- the number of the statement that a label names
abbrev pub number_of : List (Label × ℕ) → Label → Option ℕ
number_of labels label = lookup (bytes_eq label) labels

-- the labels with that of the statement of this number, if it has one, unless an earlier statement
-- has it
abbrev pub with_label : List (Label × ℕ) → ℕ → Option PlacedLabel →
    Result (List (Label × ℕ)) AssemblyFault
with_label labels number None = Ok labels
with_label labels number (Some given) =
    if is_some (number_of labels given.label) then Err (twice_labelled given.card)
    else Ok (labels ++ (given.label, number) ∷ [])

-- a step after another one, unless that met a fault
abbrev pub and_then : {A B : Type 0} → Result A AssemblyFault → (A → Result B AssemblyFault) →
    Result B AssemblyFault
and_then (Ok made) step = step made
and_then (Err fault) step = Err fault

-- these labels and those of statements that are numbered from this number on; or the first that is
-- there twice
abbrev pub labels_after : List (Label × ℕ) → ℕ → List DeckStatementParts →
    Result (List (Label × ℕ)) AssemblyFault
labels_after labels number [] = Ok labels
labels_after labels number (written ∷ others) =
    and_then (with_label labels number written.label)
    (λ more. labels_after more (number + 1) others)

-- the labels of statements, in order, each with the number of its statement; or the first that is
-- there twice
abbrev pub labels_of : List DeckStatementParts → Result (List (Label × ℕ)) AssemblyFault
labels_of written = labels_after [] 0 written
