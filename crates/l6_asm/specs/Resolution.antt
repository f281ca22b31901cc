-- From labels to the numbers of statements.
use Rattle.std.specs.Prelude.{ℕ, List, [], ◌∷◌, ◌++◌, map, Option, Some, None, Result, Ok, Err}
use Rattle.std.specs.Option.{option_map}
use Rattle.l6_prog.specs.declared.condition.Test.{Test}
use Rattle.l6_prog.specs.declared.operation.Op.{Op}
use Rattle.l6_prog.specs.declared.operation.Op.TheVariants.{Get, Duplicate, Call, Input, Set, Add, Subtract, Multiply, Divide, Remainder, And, Or, ExclusiveOr, Complement, ShiftLeft, ShiftRight, Exchange, Define, SaveContent, RestoreContent, SaveDefinition, RestoreDefinition, Free, PrintCharacters, PrintDecimal, PrintOctal, PrintText, PrintLine}
use Rattle.l6_prog.specs.declared.exit.Exit.{Exit}
use Rattle.l6_prog.specs.declared.exit.Exit.TheVariants.{Next, Label as ToLabel, Done, Fail}
use Rattle.l6_prog.specs.Statement.{Parts, plain_done}
use Rattle.l6_group.specs.declared.label.Label.{Label}
use Rattle.l6_group.specs.Spelling.{◌>>=◌}
use Rattle.l6_card.specs.declared.cards.Placed.{Placed}
use Rattle.l6_card.specs.declared.cards.PlacedLabel.{PlacedLabel}
use Rattle.l6_card.specs.Statement.{DeckStatementParts}
use Rattle.l6_asm.specs.AssemblyFault.{AssemblyFault, no_label}
use Rattle.l6_asm.specs.Labels.{number_of, and_then}

-- the number that a label names, if a label is given
abbrev pub number_if_given : List (Label × ℕ) → Option Label → Option (Option ℕ)
number_if_given labels None = Some None
number_if_given labels (Some label) = option_map Some (number_of labels label)

-- the call of a label, with its fail label if one is given
abbrev pub call_of : List (Label × ℕ) → Label → Option Label → Option (Op ℕ)
call_of labels called fail = do
  number ← number_of labels called
  other ← number_if_given labels fail
  Some (Call number other)

-- an operation with numbers in place of its labels, if each is there: four rows name labels
abbrev pub resolved : List (Label × ℕ) → Op Label → Option (Op ℕ)
resolved labels (Get c v d label) = option_map (Get c v d) (number_if_given labels label)
resolved labels (Duplicate c v label) = option_map (Duplicate c v) (number_if_given labels label)
resolved labels (Call called fail) = call_of labels called fail
resolved labels (Input c v label) = option_map (Input c v) (number_if_given labels label)
resolved labels (Set c v) = Some (Set c v)
resolved labels (Add c v) = Some (Add c v)
resolved labels (Subtract c v) = Some (Subtract c v)
resolved labels (Multiply c v) = Some (Multiply c v)
resolved labels (Divide c v) = Some (Divide c v)
resolved labels (Remainder c v) = Some (Remainder c v)
resolved labels (And c v) = Some (And c v)
resolved labels (Or c v) = Some (Or c v)
resolved labels (ExclusiveOr c v) = Some (ExclusiveOr c v)
resolved labels (Complement c v) = Some (Complement c v)
resolved labels (ShiftLeft c v) = Some (ShiftLeft c v)
resolved labels (ShiftRight c v) = Some (ShiftRight c v)
resolved labels (Exchange c d) = Some (Exchange c d)
resolved labels (Define f w a z) = Some (Define f w a z)
resolved labels (SaveContent c) = Some (SaveContent c)
resolved labels (RestoreContent c) = Some (RestoreContent c)
resolved labels (SaveDefinition f) = Some (SaveDefinition f)
resolved labels (RestoreDefinition f) = Some (RestoreDefinition f)
resolved labels (Free c v) = Some (Free c v)
resolved labels (PrintCharacters c v) = Some (PrintCharacters c v)
resolved labels (PrintDecimal c) = Some (PrintDecimal c)
resolved labels (PrintOctal c) = Some (PrintOctal c)
resolved labels (PrintText t) = Some (PrintText t)
resolved labels PrintLine = Some PrintLine

-- what is found; else this card names a label that no card has
abbrev pub found_on : {A : Type 0} → ℕ → Option A → Result A AssemblyFault
found_on card None = Err (no_label card)
found_on card (Some found) = Ok found

-- the operation of a group
abbrev pub operation_of : List (Label × ℕ) → Placed (Op Label) → Result (Op ℕ) AssemblyFault
operation_of labels group = found_on group.card (resolved labels group.reading)

-- the exit, with a number in place of its label
abbrev pub exit_of : List (Label × ℕ) → Exit PlacedLabel → Result (Exit ℕ) AssemblyFault
exit_of labels Next = Ok Next
exit_of labels (ToLabel named) =
    found_on named.card (option_map ToLabel (number_of labels named.label))
exit_of labels Done = Ok Done
exit_of labels Fail = Ok Fail

-- one in front of others, unless either is a fault
abbrev pub onto_made : {A : Type 0} → Result A AssemblyFault → Result (List A) AssemblyFault →
    Result (List A) AssemblyFault
onto_made (Err fault) others = Err fault
onto_made (Ok one) (Err fault) = Err fault
onto_made (Ok one) (Ok others) = Ok (one ∷ others)

-- what is made of each, or the first fault
abbrev pub each_made : {A B : Type 0} → (A → Result B AssemblyFault) → List A →
    Result (List B) AssemblyFault
each_made make [] = Ok []
each_made make (x ∷ xs) = onto_made (make x) (each_made make xs)

-- the statement of a program for one of the deck
abbrev pub statement_of : List (Label × ℕ) → DeckStatementParts → Result Parts AssemblyFault
statement_of labels written =
    and_then (each_made (operation_of labels) written.operations) (λ operations.
    and_then (exit_of labels written.exit) (λ leaving.
    Ok (record {
      condition = written.condition;
      tests = map (λ (group : Placed Test). group.reading) written.tests;
      operations = operations;
      exit = leaving;
    })))

-- the statements of a program: the written ones, and the plain DONE after them
abbrev pub statements_of : List (Label × ℕ) → List DeckStatementParts →
    Result (List Parts) AssemblyFault
statements_of labels written =
    and_then (each_made (statement_of labels) written)
    (λ statements. Ok (statements ++ plain_done ∷ []))
