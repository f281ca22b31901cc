-- The program that a deck spells.
use Rattle.std.specs.Prelude.{◌≡◌, ◌⊎◌, ℕ, List, Some, Result, Ok, Err}
use Rattle.l6_card.specs.Fault.{fault_of}
use Rattle.l6_card.specs.ReadsAs.{ReadsAs}
use Rattle.l6_card.specs.Statement.{DeckStatementParts}
use Rattle.l6_asm.specs.AssemblyFault.{AssemblyFault, unread, twice_labelled, no_label}
use Rattle.l6_asm.specs.Assembled.{Assembled}
use Rattle.l6_asm.specs.Labels.{labels_of, and_then}
use Rattle.l6_asm.specs.Resolution.{statements_of}

-- what is assembled of the statements of a deck: their labels, which must differ; then the
-- statements with numbers in place of labels, each of which must be there
abbrev pub assembled : List DeckStatementParts → Result Assembled AssemblyFault
assembled written =
    and_then (labels_of written) (λ labels.
    and_then (statements_of labels written) (λ statements.
    Ok (record { program = statements; labels = labels })))

-- the deck spells the program with these labels: it says some statements, and these are assembled
-- of them
pub record Spells (deck : List ℕ) (assembly : Assembled) : Type 0 where
  pub written : List DeckStatementParts
  pub reads : ReadsAs deck written
  pub whole : assembled written ≡ Ok assembly

-- the deck spells no program
abbrev pub SpellsNothing : List ℕ → Type 0
SpellsNothing deck = (assembly : Assembled) → Spells deck assembly → ⊥

-- the deck spells the program with these labels and no other
pub record SpellsJust (deck : List ℕ) (assembly : Assembled) : Type 0 where
  pub spells : Spells deck assembly
  pub only : (other : Assembled) → Spells deck other → other ≡ assembly

-- the deck is read, but its statements are not assembled: they have this fault
pub record FailsToAssemble (deck : List ℕ) (fault : AssemblyFault) : Type 0 where
  pub written : List DeckStatementParts
  pub reads : ReadsAs deck written
  pub stops : assembled written ≡ Err fault

-- the fault is the deck's: the first objection to it, or else that of its statements
abbrev pub IsFault : List ℕ → AssemblyFault → Type 0
IsFault deck (unread objection) = fault_of deck ≡ Some objection
IsFault deck (twice_labelled card) = FailsToAssemble deck (twice_labelled card)
IsFault deck (no_label card) = FailsToAssemble deck (no_label card)

-- the fault is the deck's, which spells no program
pub record IsUnspelled (deck : List ℕ) (fault : AssemblyFault) : Type 0 where
  pub first : IsFault deck fault
  pub nothing : SpellsNothing deck

-- each deck spells a program or has a fault
abbrev pub SpellsOrFails : Type 0
SpellsOrFails =
    (deck : List ℕ) →
    ((assembly : Assembled) × Spells deck assembly) ⊎ ((fault : AssemblyFault) × IsFault deck fault)

-- no deck does both
abbrev pub NeverBoth : Type 0
NeverBoth =
    (deck : List ℕ) (assembly : Assembled) (fault : AssemblyFault) →
    Spells deck assembly → IsFault deck fault → ⊥

-- a deck spells at most one program
abbrev pub SpellsInOneWay : Type 0
SpellsInOneWay =
    (deck : List ℕ) (assembly other : Assembled) → Spells deck assembly → Spells deck other →
    other ≡ assembly
