-- Worked examples of the definitions, each by hand.
use Rattle.std.specs.Prelude.{◌≡◌, ℕ, List, [], ◌∷◌, ◌++◌, codes, Some, None}
use Rattle.l6_prog.specs.Numerals.{first_letter}
use Rattle.l6_prog.specs.declared.condition.Cond.TheVariants.{Always, If}
use Rattle.l6_prog.specs.declared.condition.Comparison.TheVariants.{Greater}
use Rattle.l6_prog.specs.declared.operand.Operand.TheVariants.{Number}
use Rattle.l6_prog.specs.declared.operation.Op.TheVariants.{Set, Subtract, PrintDecimal}
use Rattle.l6_prog.specs.declared.exit.Exit.TheVariants.{Next, Label as ToLabel}
use Rattle.l6_card.specs.Statement.{DeckStatementParts}
use Rattle.l6_card.specs.DeckFault.{form}
use Rattle.l6_card.specs.declared.objection.Reason.TheVariants.{TestForOperation, NoExit, Unfinished}
use Rattle.l6_card.specs.Objection.{objects}
use Rattle.l6_card.specs.Fault.{objection_to, fault_of}
use Rattle.l6_card.specs.ReadsAs.{ReadsAs}

-- a deck that counts A down from 3; its last two cards are one statement, with a label, a condition
-- and an exit
abbrev pub loop_deck : List ℕ
loop_deck = codes " (A,E,3)\nNEXT IF (A,G,0)\n" ++ codes "+ THEN (A,PD)(A,S,1) NEXT\n"

-- the name A
abbrev pub name_a : ℕ
name_a = first_letter

-- its first statement
abbrev pub set_statement : DeckStatementParts
set_statement = record {
  label = None;
  condition = Always;
  tests = [];
  operations =
      record {
        reading = Set (name_a ∷ []) (Number 3);
        card = 1;
        span = record { offset = 1; length = 7 };
      } ∷ [];
  exit = Next;
}

-- its second statement
abbrev pub count_statement : DeckStatementParts
count_statement = record {
  label = Some (record { label = codes "NEXT"; card = 2 });
  condition = If;
  tests =
      record {
        reading = record { comparison = Greater; chain = name_a ∷ []; operand = Number 0 };
        card = 2;
        span = record { offset = 17; length = 7 };
      } ∷ [];
  operations =
      record {
        reading = PrintDecimal (name_a ∷ []);
        card = 3;
        span = record { offset = 32; length = 6 };
      }
      ∷ record {
        reading = Subtract (name_a ∷ []) (Number 1);
        card = 3;
        span = record { offset = 38; length = 7 };
      } ∷ [];
  exit = ToLabel (record { label = codes "NEXT"; card = 3 });
}

-- the deck says these two statements
abbrev pub LoopIsRead : Type 0
LoopIsRead = ReadsAs loop_deck (set_statement ∷ count_statement ∷ [])

-- a condition and its test that no THEN follows are the fault of the statement's last card: the
-- comment and the blank card are not its cards, and the next statement begins on card 5
abbrev pub half_deck : List ℕ
half_deck = codes " IF (A,G,0)\n* THEN\n+\n \nNEXT\n"

abbrev pub HalfIsRefused : Type 0
HalfIsRefused =
    (fault_of half_deck ≡ Some (form 3))
    × (objection_to half_deck ≡ Some (objects 3 0 1 Unfinished))

-- a test where an operation must stand objects with its parentheses, in columns that count from 0; the
-- word after it is not reached
abbrev pub TestIsRefused : Type 0
TestIsRefused =
    objection_to (codes " (PL)\nLOOP (PL) (A,G,0) GO ON\n")
    ≡ Some (objects 2 10 17 TestForOperation)

-- a word objects from its first letter to its last, with the blanks in it
abbrev pub WordIsRefused : Type 0
WordIsRefused =
    objection_to (codes " (PL)   A LONG EXIT \n") ≡ Some (objects 1 8 19 NoExit)
