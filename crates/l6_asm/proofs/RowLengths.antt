-- How many words the rows of tests and operations have.
use Rattle.std.proofs.Common.{◌≡◌, ℕ, ◌+◌, List, ◌++◌, length, Option, Some, None, refl, ap, sym, ◌∙◌, arith, length-append}
use Rattle.std.specs.Option.{option_map, option_and_then}
use Rattle.l6_prog.specs.declared.condition.Test.{Test}
use Rattle.l6_prog.specs.declared.operand.Operand.{Operand}
use Rattle.l6_prog.specs.declared.operand.Operand.TheVariants.{Chain, Number}
use Rattle.l6_prog.specs.declared.operation.Op.{Op}
use Rattle.l6_prog.specs.declared.operation.Op.TheVariants.{Get, Duplicate, Call, Input, Set, Add, Subtract, Multiply, Divide, Remainder, And, Or, ExclusiveOr, Complement, ShiftLeft, ShiftRight, Exchange, Define, SaveContent, RestoreContent, SaveDefinition, RestoreDefinition, Free, PrintCharacters, PrintDecimal, PrintOctal, PrintText, PrintLine}
use Rattle.l6_image.specs.Row.{Slot, absent, chain, number, text, Row, sixes, slot_words, row_words}
use Rattle.l6_image.specs.Table.{operand, operand_if_given, chain_if_given, row_of, row_of_test}
use Rattle.l6_image.specs.Image.{test_words, operation_words}
use Rattle.l6_image.specs.declared.version.Version.{Version}
use Rattle.l6_group.specs.declared.label.Label.{Label}
use Rattle.l6_asm.specs.Labels.{number_of}
use Rattle.l6_asm.specs.Resolution.{number_if_given, resolved}

-- how many words an operand has
abbrev slot_count : Slot → ℕ
slot_count absent = 0
slot_count (chain names) = 1
slot_count (number n) = 1
slot_count (text codes) = 1 + length (sixes codes)

-- the words of an operand are so many
slot_row_count : (slot : Slot) → length (slot_words slot) ≡ slot_count slot
slot_row_count absent = refl
slot_row_count (chain names) = refl
slot_row_count (number n) = refl
slot_row_count (text codes) = omega arith

-- a row has a first word, and those of its operands
row_count : (version : Version) (row : Row) →
    length (row_words version row)
    ≡ 1 + slot_count row.first + slot_count row.second + slot_count row.third
row_count version row =
    omega (
      arith,
      length-append (slot_words row.first ++ slot_words row.second) (slot_words row.third),
      length-append (slot_words row.first) (slot_words row.second),
      slot_row_count row.first,
      slot_row_count row.second,
      slot_row_count row.third,
    )

-- a chain or a number is one word
operand_count : (given : Operand) → slot_count (operand given) ≡ 1
operand_count (Chain names) = refl
operand_count (Number n) = refl

-- how many words an operation has, whatever it has for labels
abbrev pub operation_count : {A : Type 0} → Op A → ℕ
operation_count PrintLine = 1
operation_count (SaveDefinition f) = 1
operation_count (RestoreDefinition f) = 1
operation_count (SaveContent c) = 2
operation_count (RestoreContent c) = 2
operation_count (PrintDecimal c) = 2
operation_count (PrintOctal c) = 2
operation_count (Call called fail) = 2
operation_count (Free c None) = 2
operation_count (Get c v (Some d) label) = 4
operation_count (Define f w a z) = 4
operation_count (PrintText codes) = 2 + length (sixes codes)
operation_count _ = 3

-- a free has one more with an operand
given_count : (c : List ℕ) (given : Option Operand) →
    2 + slot_count (operand_if_given given) ≡ operation_count {A = ℕ} (Free c given)
given_count c None = refl
given_count c (Some v) = omega (arith, operand_count v)

-- a get has one more with a second chain
chain_count : (c : List ℕ) (v : Operand) (d : Option (List ℕ)) (label : Option ℕ) →
    3 + slot_count (chain_if_given d) ≡ operation_count (Get c v d label)
chain_count c v None label = refl
chain_count c v (Some d) label = refl

-- the row of an operation has so many words
operation_row : (operation : Op ℕ) →
    1 + slot_count (row_of operation).first + slot_count (row_of operation).second
    + slot_count (row_of operation).third
    ≡ operation_count operation
operation_row (Set c v) = omega (arith, operand_count v)
operation_row (Add c v) = omega (arith, operand_count v)
operation_row (Subtract c v) = omega (arith, operand_count v)
operation_row (Multiply c v) = omega (arith, operand_count v)
operation_row (Divide c v) = omega (arith, operand_count v)
operation_row (Remainder c v) = omega (arith, operand_count v)
operation_row (And c v) = omega (arith, operand_count v)
operation_row (Or c v) = omega (arith, operand_count v)
operation_row (ExclusiveOr c v) = omega (arith, operand_count v)
operation_row (Complement c v) = omega (arith, operand_count v)
operation_row (ShiftLeft c v) = omega (arith, operand_count v)
operation_row (ShiftRight c v) = omega (arith, operand_count v)
operation_row (Exchange c d) = refl
operation_row (Define f w a z) =
    omega (arith, operand_count w, operand_count a, operand_count z)
operation_row (SaveContent c) = refl
operation_row (RestoreContent c) = refl
operation_row (SaveDefinition f) = refl
operation_row (RestoreDefinition f) = refl
operation_row (Get c v d label) = omega (arith, operand_count v, chain_count c v d label)
operation_row (Duplicate c v label) = omega (arith, operand_count v)
operation_row (Free c v) = omega (arith, given_count c v)
operation_row (Call called fail) = refl
operation_row (Input c v label) = omega (arith, operand_count v)
operation_row (PrintCharacters c v) = omega (arith, operand_count v)
operation_row (PrintDecimal c) = refl
operation_row (PrintOctal c) = refl
operation_row (PrintText codes) = omega arith
operation_row PrintLine = refl

-- the words of an operation are so many
pub operation_row_count : (version : Version) (operation : Op ℕ) →
    length (operation_words version operation) ≡ operation_count operation
operation_row_count version operation =
    row_count version (row_of operation) ∙ operation_row operation

-- how many words a test has: a first word, a chain and an operand
abbrev pub test_count : ℕ
test_count = 3

-- the words of a test are so many
pub test_row_count : (version : Version) (test : Test) → length (test_words version test) ≡ test_count
test_row_count version test =
    omega (arith, row_count version (row_of_test test), operand_count test.operand)

-- an operation that names no label is the same with numbers in place of labels
same_count : (operation made : Op ℕ) → ◌≡◌ {A = Option (Op ℕ)} (Some operation) (Some made) →
    operation_count made ≡ operation_count operation
same_count operation made so =
    let same : operation ≡ made = cc in
    ap (λ o. operation_count o) (sym same)

-- a get has as many with numbers in place of labels, and so have the others that name labels
get_count : (c : List ℕ) (v : Operand) (d : Option (List ℕ)) (label : Option Label)
    (found : Option (Option ℕ)) (made : Op ℕ) → option_map (Get c v d) found ≡ Some made →
    operation_count made ≡ operation_count (Get c v d label)
get_count c v d label None made so = absurd (cc)
get_count c v None label (Some given) made so = same_count (Get c v None given) made so
get_count c v (Some d) label (Some given) made so = same_count (Get c v (Some d) given) made so

duplicate_count : (c : List ℕ) (v : Operand) (found : Option (Option ℕ)) (made : Op ℕ) →
    option_map (Duplicate c v) found ≡ Some made → operation_count made ≡ 3
duplicate_count c v None made so = absurd (cc)
duplicate_count c v (Some given) made so = same_count (Duplicate c v given) made so

input_count : (c : List ℕ) (v : Operand) (found : Option (Option ℕ)) (made : Op ℕ) →
    option_map (Input c v) found ≡ Some made → operation_count made ≡ 3
input_count c v None made so = absurd (cc)
input_count c v (Some given) made so = same_count (Input c v given) made so

call_count : (called : Option ℕ) (fail : Option (Option ℕ)) (made : Op ℕ) →
    option_and_then (λ n. option_and_then (λ o. Some (Call n o)) fail) called ≡ Some made →
    operation_count made ≡ 2
call_count None fail made so = absurd (cc)
call_count (Some called) None made so = absurd (cc)
call_count (Some called) (Some fail) made so = same_count (Call called fail) made so

-- numbers in place of labels change no count
pub resolved_count : (labels : List (Label × ℕ)) (operation : Op Label) (made : Op ℕ) →
    resolved labels operation ≡ Some made → operation_count made ≡ operation_count operation
resolved_count labels (Get c v d label) made so =
    get_count c v d label (number_if_given labels label) made so
resolved_count labels (Duplicate c v label) made so =
    duplicate_count c v (number_if_given labels label) made so
resolved_count labels (Call called fail) made so =
    call_count (number_of labels called) (number_if_given labels fail) made so
resolved_count labels (Input c v label) made so =
    input_count c v (number_if_given labels label) made so
resolved_count labels (Free c None) made so = same_count (Free c None) made so
resolved_count labels (Free c (Some v)) made so = same_count (Free c (Some v)) made so
resolved_count labels _ made so = same_count _ made so
