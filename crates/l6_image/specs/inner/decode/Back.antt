-- The table of rows, read backwards. Anything else that a row has is ignored.
use Rattle.std.specs.Prelude.{ℕ, ◌^◌, ◌==◌, nat_lt, List, Option, Some, None, if◌then◌else◌}
use Rattle.std.specs.Option.{option_map}
use Rattle.l6_word.specs.Numerals.{word_bits}
use Rattle.l6_prog.specs.Chain.{is_chain}
use Rattle.l6_prog.specs.PrintText.{is_print_text}
use Rattle.l6_prog.specs.declared.condition.Test.{Test}
use Rattle.l6_prog.specs.declared.condition.Comparison.{Comparison}
use Rattle.l6_prog.specs.declared.condition.Comparison.TheVariants.{Equal, NotEqual, Greater, Less, AllOnes, AllZeros}
use Rattle.l6_prog.specs.declared.operand.Operand.{Operand}
use Rattle.l6_prog.specs.declared.operand.Operand.TheVariants.{Chain, Number}
use Rattle.l6_prog.specs.declared.operation.Op.{Op}
use Rattle.l6_prog.specs.declared.operation.Op.TheVariants.{Get, Duplicate, Call, Input, Set, Add, Subtract, Multiply, Divide, Remainder, And, Or, ExclusiveOr, Complement, ShiftLeft, ShiftRight, Exchange, Define, SaveContent, RestoreContent, SaveDefinition, RestoreDefinition, Free, PrintCharacters, PrintDecimal, PrintOctal, PrintText, PrintLine}
use Rattle.l6_image.specs.Row.{Slot, absent, chain, number, text, Row}
use Rattle.l6_image.specs.inner.decode.Reading.{◌>>=◌}

-- the chain of these names
abbrev pub chain_from : List ℕ → Option (List ℕ)
chain_from names = if is_chain names then Some names else None

-- the number of a word
abbrev pub number_from : ℕ → Option Operand
number_from n = if nat_lt n (2 ^ word_bits) then Some (Number n) else None

-- the number of a statement
abbrev pub statement_from : ℕ → Option ℕ
statement_from n = if nat_lt n (2 ^ 16) then Some n else None

-- the text of these codes
abbrev pub text_from : List ℕ → Option (List ℕ)
text_from codes = if is_print_text codes then Some codes else None

-- the operand as a chain
unfoldable pub chain_in : Slot → Option (List ℕ)
chain_in (chain names) = chain_from names
chain_in _ = None

-- the operand as a chain or a number
unfoldable pub operand_in : Slot → Option Operand
operand_in (chain names) = option_map Chain (chain_from names)
operand_in (number n) = number_from n
operand_in _ = None

-- the operand as a chain, if there is one
unfoldable pub chain_if_given_in : Slot → Option (Option (List ℕ))
chain_if_given_in absent = Some None
chain_if_given_in (chain names) = option_map Some (chain_from names)
chain_if_given_in _ = None

-- the operand as a chain or a number, if there is one
unfoldable pub operand_if_given_in : Slot → Option (Option Operand)
operand_if_given_in absent = Some None
operand_if_given_in other = option_map Some (operand_in other)

-- the operand as the number of a statement
unfoldable pub statement_in : Slot → Option ℕ
statement_in (number n) = statement_from n
statement_in _ = None

-- the operand as a text
unfoldable pub text_in : Slot → Option (List ℕ)
text_in (text codes) = text_from codes
text_in _ = None

-- a chain and an operand
abbrev pub of_two : {A : Type 0} → (List ℕ → Operand → A) → Row → Option A
of_two make row = do
  c ← chain_in row.first
  v ← operand_in row.second
  Some (make c v)

-- a chain
abbrev pub of_one : {A : Type 0} → (List ℕ → A) → Row → Option A
of_one make row = do
  c ← chain_in row.first
  Some (make c)

-- a field
abbrev pub of_field : {A : Type 0} → (ℕ → A) → Row → Option A
of_field make row = do
  f ← row.field
  Some (make f)

-- two chains
abbrev pub exchange_of : Row → Option (Op ℕ)
exchange_of row = do
  c ← chain_in row.first
  d ← chain_in row.second
  Some (Exchange c d)

-- a field and three operands
abbrev pub define_of : Row → Option (Op ℕ)
define_of row = do
  f ← row.field
  w ← operand_in row.first
  a ← operand_in row.second
  z ← operand_in row.third
  Some (Define f w a z)

-- a chain, an operand, and a chain if there is one
abbrev pub get_of : Row → Option (Op ℕ)
get_of row = do
  c ← chain_in row.first
  v ← operand_in row.second
  d ← chain_if_given_in row.third
  Some (Get c v d row.label)

-- a chain, and an operand if there is one
abbrev pub free_of : Row → Option (Op ℕ)
free_of row = do
  c ← chain_in row.first
  v ← operand_if_given_in row.second
  Some (Free c v)

-- the number of a statement
abbrev pub call_of : Row → Option (Op ℕ)
call_of row = do
  called ← statement_in row.first
  Some (Call called row.label)

-- a text
abbrev pub print_text_of : Row → Option (Op ℕ)
print_text_of row = do
  codes ← text_in row.first
  Some (PrintText codes)

-- the comparison of a test's code
abbrev pub comparison_of : ℕ → Option Comparison
comparison_of code =
    if code == 1 then Some Equal
    else if code == 2 then Some NotEqual
    else if code == 3 then Some Greater
    else if code == 4 then Some Less
    else if code == 5 then Some AllOnes
    else if code == 6 then Some AllZeros
    else None

-- the test of a row
unfoldable pub test_of : Row → Option Test
test_of row = do
  comparison ← comparison_of row.code
  c ← chain_in row.first
  v ← operand_in row.second
  Some (record { comparison = comparison; chain = c; operand = v })

-- the operation of a row
unfoldable pub operation_of : Row → Option (Op ℕ)
operation_of row =
    if row.code == 1 then of_two Set row
    else if row.code == 2 then of_two Add row
    else if row.code == 3 then of_two Subtract row
    else if row.code == 4 then of_two Multiply row
    else if row.code == 5 then of_two Divide row
    else if row.code == 6 then of_two Remainder row
    else if row.code == 7 then of_two And row
    else if row.code == 8 then of_two Or row
    else if row.code == 9 then of_two ExclusiveOr row
    else if row.code == 10 then of_two Complement row
    else if row.code == 11 then of_two ShiftLeft row
    else if row.code == 12 then of_two ShiftRight row
    else if row.code == 13 then exchange_of row
    else if row.code == 14 then define_of row
    else if row.code == 15 then of_one SaveContent row
    else if row.code == 16 then of_one RestoreContent row
    else if row.code == 17 then of_field SaveDefinition row
    else if row.code == 18 then of_field RestoreDefinition row
    else if row.code == 19 then get_of row
    else if row.code == 20 then of_two (λ c v. Duplicate c v row.label) row
    else if row.code == 21 then free_of row
    else if row.code == 22 then call_of row
    else if row.code == 23 then of_two (λ c v. Input c v row.label) row
    else if row.code == 24 then of_two PrintCharacters row
    else if row.code == 25 then of_one PrintDecimal row
    else if row.code == 26 then of_one PrintOctal row
    else if row.code == 27 then print_text_of row
    else if row.code == 28 then Some PrintLine
    else None
