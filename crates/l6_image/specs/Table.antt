-- The table of rows: for each test and each operation its code, its operands, its field and its
-- label.
use Rattle.std.specs.Prelude.{ℕ, List, Option, Some, None}
use Rattle.l6_prog.specs.declared.condition.Test.{Test}
use Rattle.l6_prog.specs.declared.condition.Comparison.{Comparison}
use Rattle.l6_prog.specs.declared.condition.Comparison.TheVariants.{Equal, NotEqual, Greater, Less, AllOnes, AllZeros}
use Rattle.l6_prog.specs.declared.operand.Operand.{Operand}
use Rattle.l6_prog.specs.declared.operand.Operand.TheVariants.{Chain, Number}
use Rattle.l6_prog.specs.declared.operation.Op.{Op}
use Rattle.l6_prog.specs.declared.operation.Op.TheVariants.{Get, Duplicate, Call, Input, Set, Add, Subtract, Multiply, Divide, Remainder, And, Or, ExclusiveOr, Complement, ShiftLeft, ShiftRight, Exchange, Define, SaveContent, RestoreContent, SaveDefinition, RestoreDefinition, Free, PrintCharacters, PrintDecimal, PrintOctal, PrintText, PrintLine}
use Rattle.l6_image.specs.Row.{Slot, absent, chain, number, text, Row, row}

-- the operand, which is a chain or a number
abbrev pub operand : Operand → Slot
operand (Chain names) = chain names
operand (Number n) = number n

-- the operand, if there is one
abbrev pub operand_if_given : Option Operand → Slot
operand_if_given None = absent
operand_if_given (Some given) = operand given

-- the chain, if there is one
abbrev pub chain_if_given : Option (List ℕ) → Slot
chain_if_given None = absent
chain_if_given (Some names) = chain names

-- the code of a test, by its comparison
abbrev pub code_of_comparison : Comparison → ℕ
code_of_comparison Equal = 1
code_of_comparison NotEqual = 2
code_of_comparison Greater = 3
code_of_comparison Less = 4
code_of_comparison AllOnes = 5
code_of_comparison AllZeros = 6

-- the row of a test
abbrev pub row_of_test : Test → Row
row_of_test test =
    row (code_of_comparison test.comparison) (chain test.chain) (operand test.operand)
    absent None None

-- the row of an operation
abbrev pub row_of : Op ℕ → Row
row_of (Set c v) = row 1 (chain c) (operand v) absent None None
row_of (Add c v) = row 2 (chain c) (operand v) absent None None
row_of (Subtract c v) = row 3 (chain c) (operand v) absent None None
row_of (Multiply c v) = row 4 (chain c) (operand v) absent None None
row_of (Divide c v) = row 5 (chain c) (operand v) absent None None
row_of (Remainder c v) = row 6 (chain c) (operand v) absent None None
row_of (And c v) = row 7 (chain c) (operand v) absent None None
row_of (Or c v) = row 8 (chain c) (operand v) absent None None
row_of (ExclusiveOr c v) = row 9 (chain c) (operand v) absent None None
row_of (Complement c v) = row 10 (chain c) (operand v) absent None None
row_of (ShiftLeft c v) = row 11 (chain c) (operand v) absent None None
row_of (ShiftRight c v) = row 12 (chain c) (operand v) absent None None
row_of (Exchange c d) = row 13 (chain c) (chain d) absent None None
row_of (Define f w a z) = row 14 (operand w) (operand a) (operand z) (Some f) None
row_of (SaveContent c) = row 15 (chain c) absent absent None None
row_of (RestoreContent c) = row 16 (chain c) absent absent None None
row_of (SaveDefinition f) = row 17 absent absent absent (Some f) None
row_of (RestoreDefinition f) = row 18 absent absent absent (Some f) None
row_of (Get c v d label) = row 19 (chain c) (operand v) (chain_if_given d) None label
row_of (Duplicate c v label) = row 20 (chain c) (operand v) absent None label
row_of (Free c v) = row 21 (chain c) (operand_if_given v) absent None None
row_of (Call called fail) = row 22 (number called) absent absent None fail
row_of (Input c v label) = row 23 (chain c) (operand v) absent None label
row_of (PrintCharacters c v) = row 24 (chain c) (operand v) absent None None
row_of (PrintDecimal c) = row 25 (chain c) absent absent None None
row_of (PrintOctal c) = row 26 (chain c) absent absent None None
row_of (PrintText codes) = row 27 (text codes) absent absent None None
row_of PrintLine = row 28 absent absent absent None None
