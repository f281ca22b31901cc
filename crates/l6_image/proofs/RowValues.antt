-- The rows of a program's tests and operations: their operands are chains, words and texts, and their
-- fields are names.
use Rattle.std.proofs.Common.{◌≡◌, ℕ, ◌^◌, ◌<◌, List, Bool, true, ◌&&◌, Option, Some, None, refl, arith}
use Rattle.std.specs.Prelude.{option_to_list}
use Rattle.std.specs.List.{list_all}
use Rattle.std.proofs.lemmas.Bool.{and_parts, ltb-true, lt-ltb}
use Rattle.l6_word.specs.Numerals.{word_bits}
use Rattle.l6_word.specs.Word.{is_word}
use Rattle.l6_prog.specs.Chain.{is_name, is_chain}
use Rattle.l6_prog.specs.PrintText.{is_print_text}
use Rattle.l6_prog.specs.Target.{is_below, targets_of_operation}
use Rattle.l6_prog.specs.Values.{is_operand, is_chain_if_given, is_operand_if_given, is_test, is_operation}
use Rattle.l6_prog.specs.declared.condition.Test.{Test}
use Rattle.l6_prog.specs.declared.operand.Operand.{Operand}
use Rattle.l6_prog.specs.declared.operand.Operand.TheVariants.{Chain, Number}
use Rattle.l6_prog.specs.declared.operation.Op.{Op}
use Rattle.l6_prog.specs.declared.operation.Op.TheVariants.{Get, Duplicate, Call, Input, Set, Add, Subtract, Multiply, Divide, Remainder, And, Or, ExclusiveOr, Complement, ShiftLeft, ShiftRight, Exchange, Define, SaveContent, RestoreContent, SaveDefinition, RestoreDefinition, Free, PrintCharacters, PrintDecimal, PrintOctal, PrintText, PrintLine}
use Rattle.l6_image.specs.Row.{Slot, absent, chain, number, text, Row}
use Rattle.l6_image.specs.Table.{operand, chain_if_given, operand_if_given, row_of, row_of_test}

-- the operand is one of a program: names of a chain, a word, or a text that may be printed
abbrev pub is_slot : Slot → Bool
is_slot absent = true
is_slot (chain names) = is_chain names
is_slot (number n) = is_word n
is_slot (text codes) = is_print_text codes

-- the name is one, if there is one
abbrev pub is_field : Option ℕ → Bool
is_field None = true
is_field (Some name) = is_name name

-- operands and name are those of a program
abbrev pub is_row : Row → Bool
is_row row = is_slot row.first && is_slot row.second && is_slot row.third && is_field row.field

operand_slot : (v : Operand) → is_operand v ≡ true → is_slot (operand v) ≡ true
operand_slot (Chain names) known = known
operand_slot (Number n) known = known

chain_if_given_slot : (d : Option (List ℕ)) → is_chain_if_given d ≡ true →
    is_slot (chain_if_given d) ≡ true
chain_if_given_slot None known = refl
chain_if_given_slot (Some names) known = known

operand_if_given_slot : (v : Option Operand) → is_operand_if_given v ≡ true →
    is_slot (operand_if_given v) ≡ true
operand_if_given_slot None known = refl
operand_if_given_slot (Some v) known = operand_slot v known

-- a chain, and an operand or none
chain_and : (c : List ℕ) (is : Bool) (slot : Slot) → (is ≡ true → is_slot slot ≡ true) →
    is_chain c && is ≡ true → is_chain c && is_slot slot && true && true ≡ true
chain_and c is slot passes known =
    let parts = and_parts (is_chain c) is known in
    rw (parts.0, passes parts.1) refl

chain_alone : (c : List ℕ) → is_chain c ≡ true → is_chain c && true && true && true ≡ true
chain_alone c known = rw known refl

two : (c : List ℕ) (v : Operand) → is_chain c && is_operand v ≡ true →
    is_chain c && is_slot (operand v) && true && true ≡ true
two c v known = chain_and c (is_operand v) (operand v) (operand_slot v) known

-- the row of a test
pub test_row : (test : Test) → is_test test ≡ true → is_row (row_of_test test) ≡ true
test_row test known = two test.chain test.operand known

-- a statement's number is a word
target_word : (end target : ℕ) → end < 2 ^ word_bits → is_below end target ≡ true →
    is_word target ≡ true
target_word end target small below =
    lt-ltb target (2 ^ word_bits) (omega (arith, small, ltb-true target end below))

-- the row of an operation whose targets are below an end
pub operation_row : (end : ℕ) (operation : Op ℕ) → end < 2 ^ word_bits →
    is_operation operation ≡ true →
    list_all (is_below end) (targets_of_operation operation) ≡ true →
    is_row (row_of operation) ≡ true
operation_row end (Set c v) small known below = two c v known
operation_row end (Add c v) small known below = two c v known
operation_row end (Subtract c v) small known below = two c v known
operation_row end (Multiply c v) small known below = two c v known
operation_row end (Divide c v) small known below = two c v known
operation_row end (Remainder c v) small known below = two c v known
operation_row end (And c v) small known below = two c v known
operation_row end (Or c v) small known below = two c v known
operation_row end (ExclusiveOr c v) small known below = two c v known
operation_row end (Complement c v) small known below = two c v known
operation_row end (ShiftLeft c v) small known below = two c v known
operation_row end (ShiftRight c v) small known below = two c v known
operation_row end (Exchange c d) small known below =
    chain_and c (is_chain d) (chain d) (λ is. is) known
operation_row end (Define f w a z) small known below =
    let front = is_name f && is_operand w in
    let parts = and_parts (front && is_operand a) (is_operand z) known in
    let others = and_parts front (is_operand a) parts.0 in
    let first = and_parts (is_name f) (is_operand w) others.0 in
    rw (operand_slot w first.1, operand_slot a others.1, operand_slot z parts.1, first.0) refl
operation_row end (SaveContent c) small known below = chain_alone c known
operation_row end (RestoreContent c) small known below = chain_alone c known
operation_row end (SaveDefinition f) small known below = rw known refl
operation_row end (RestoreDefinition f) small known below = rw known refl
operation_row end (Get c v d label) small known below =
    let parts = and_parts (is_chain c && is_operand v) (is_chain_if_given d) known in
    let front = and_parts (is_chain c) (is_operand v) parts.0 in
    rw (front.0, operand_slot v front.1, chain_if_given_slot d parts.1) refl
operation_row end (Duplicate c v label) small known below = two c v known
operation_row end (Free c v) small known below =
    chain_and c (is_operand_if_given v) (operand_if_given v) (operand_if_given_slot v) known
operation_row end (Call called fail) small known below =
    let first
    = (and_parts (is_below end called) (list_all (is_below end) (option_to_list fail)) below).0 in
    rw (target_word end called small first) refl
operation_row end (Input c v label) small known below = two c v known
operation_row end (PrintCharacters c v) small known below = two c v known
operation_row end (PrintDecimal c) small known below = chain_alone c known
operation_row end (PrintOctal c) small known below = chain_alone c known
operation_row end (PrintText codes) small known below = rw known refl
operation_row end PrintLine small known below = refl
