-- Worked examples of the definitions, each by hand.
use Rattle.std.specs.Prelude.{◌≡◌, ℕ, ◌+◌, List, [], ◌∷◌, codes, Some}
use Rattle.l6_prog.specs.declared.condition.Cond.TheVariants.{Always}
use Rattle.l6_prog.specs.declared.exit.Exit.TheVariants.{Next}
use Rattle.l6_prog.specs.declared.operand.Operand.TheVariants.{Number}
use Rattle.l6_prog.specs.declared.operation.Op.TheVariants.{Set, PrintDecimal}
use Rattle.l6_prog.specs.Numerals.{first_letter}
use Rattle.l6_prog.specs.Statement.{Parts, plain_done}
use Rattle.l6_store.specs.Open.{Choice}
use Rattle.l6_steps.specs.declared.halt.Halt.TheVariants as halts
use Rattle.l6_steps.specs.declared.trap.Trap.TheVariants.{UndefinedField}
use Rattle.l6_steps.specs.State.{RunContext, State, start}
use Rattle.l6_steps.specs.Step.{next}
use Rattle.l6_machine.specs.declared.ending.Ending.TheVariants.{Done}
use Rattle.l6_machine.specs.Options.{context_under, default_options}
use Rattle.l6_card.specs.DeckFault.{form}
use Rattle.l6_card.specs.Fault.{fault_of}
use Rattle.l6_asm.specs.Assembled.{Assembled}
use Rattle.l6_asm.specs.Spells.{Spells}
use Rattle.l6_run.specs.Prints.{Prints}

-- a deck that sets A to 5 and prints it, after a comment
abbrev pub five_deck : List ℕ
five_deck = codes "* five\n (A,E,5)(A,PD)\n"

-- the names A and N
abbrev pub name_a : ℕ
name_a = first_letter

abbrev pub name_n : ℕ
name_n = first_letter + 13

-- its program
abbrev pub five_program : List Parts
five_program =
    record {
      condition = Always;
      tests = [];
      operations = Set (name_a ∷ []) (Number 5) ∷ PrintDecimal (name_a ∷ []) ∷ [];
      exit = Next;
    } ∷ plain_done ∷ []

-- what the deck spells: the program, and no labels
abbrev pub five_assembly : Assembled
five_assembly = record { program = five_program; labels = [] }

-- the deck spells its program
abbrev pub FiveIsSpelled : Type 0
FiveIsSpelled = Spells five_deck five_assembly

-- its run ends by DONE and prints 5
abbrev pub FiveIsPrinted : Type 0
FiveIsPrinted = Prints default_options five_deck [] Done (codes "5\n== DONE AFTER 6 STEPS\n")

-- a group that reads as nothing is the fault of its card, and not of the card after it
abbrev pub UnknownIsRefused : Type 0
UnknownIsRefused = fault_of (codes " (A,PD)\n (A,Q,1)\nX\n") ≡ Some (form 2)

-- the program that prints what field N of A's block holds
abbrev pub field_context : RunContext
field_context = context_under default_options [] (record {
  condition = Always;
  tests = [];
  operations = PrintDecimal (name_a ∷ name_n ∷ []) ∷ [];
  exit = Next;
} ∷ plain_done ∷ [])

-- after the condition that program is at its operation
abbrev pub at_field : State
at_field = record start { at = record { statement = 0; action = 1 }; count = 1 }

-- whatever the places that a store would give, its second step traps, and changes the ending alone:
-- the count stays 1
abbrev pub FieldTraps : Type 0
FieldTraps =
    (choice : Choice) →
    (next field_context choice start ≡ at_field)
    × (next field_context choice at_field
    ≡ record at_field { ending = Some (halts.Trap UndefinedField) })
