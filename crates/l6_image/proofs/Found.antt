-- Rows are found again in their words, and tests and operations in their rows.
use Rattle.std.proofs.Common.{◌≡◌, ℕ, ◌-◌, ◌/◌, ◌%◌, ◌^◌, ◌<◌, List, [], ◌∷◌, ◌++◌, suc, get_or, nat_eq, true, false, Option, Some, None, refl, ap, ◌∙◌, arith, append_assoc}
use Rattle.std.specs.Prelude.{◌&&◌, unwrap_or, option_to_list}
use Rattle.std.specs.List.{list_all}
use Rattle.std.proofs.lemmas.Bool.{and_parts, ltb-true, lt-ltb, ne_eqb}
use Rattle.l6_prog.specs.declared.condition.Test.{Test}
use Rattle.l6_prog.specs.declared.condition.Comparison.{Comparison}
use Rattle.l6_prog.specs.declared.condition.Comparison.TheVariants.{Equal, NotEqual, Greater, Less, AllOnes, AllZeros}
use Rattle.l6_prog.specs.declared.operand.Operand.{Operand}
use Rattle.l6_prog.specs.declared.operand.Operand.TheVariants.{Chain, Number}
use Rattle.l6_prog.specs.declared.operation.Op.{Op}
use Rattle.l6_prog.specs.declared.operation.Op.TheVariants.{Get, Duplicate, Call, Input, Set, Add, Subtract, Multiply, Divide, Remainder, And, Or, ExclusiveOr, Complement, ShiftLeft, ShiftRight, Exchange, Define, SaveContent, RestoreContent, SaveDefinition, RestoreDefinition, Free, PrintCharacters, PrintDecimal, PrintOctal, PrintText, PrintLine}
use Rattle.l6_prog.specs.Numerals.{name_count}
use Rattle.l6_prog.specs.Target.{is_below, targets_of_operation}
use Rattle.l6_image.specs.Numerals.{no_name}
use Rattle.l6_image.specs.Bits.{BitField, bits}
use Rattle.l6_image.specs.Version.{label_number, most_in}
use Rattle.l6_image.specs.declared.version.Version.{Version}
use Rattle.l6_image.specs.declared.version.Version.TheVariants.{One, Two}
use Rattle.l6_image.specs.Row.{Slot, absent, chain, number, text, Row, row, kind, slot_words, row_head, row_words}
use Rattle.l6_image.proofs.RowValues.{is_slot, is_field, is_row}
use Rattle.l6_image.specs.Table.{operand, operand_if_given, chain_if_given, code_of_comparison, row_of, row_of_test}
use Rattle.l6_image.specs.inner.decode.Fields.{name_if, label_in}
use Rattle.l6_image.specs.inner.decode.Reading.{row_at}
use Rattle.l6_image.specs.inner.decode.Back.{comparison_of, chain_in, operand_in, chain_if_given_in, operand_if_given_in, statement_in, text_in, of_two, of_one, test_of, operation_of}
use Rattle.l6_image.proofs.Packing.{AllFit, unpacked, unpacked_packed, values}
use Rattle.l6_image.proofs.Slots.{slot_again}

-- what is known of a row of a program
pub record Known (version : Version) (row : Row) : Type 0 where
  pub code : row.code < 2 ^ 6
  pub first : is_slot row.first ≡ true
  pub second : is_slot row.second ≡ true
  pub third : is_slot row.third ≡ true
  pub field : is_field row.field ≡ true
  pub label : unwrap_or row.label 0 < most_in version

-- the parts of a row that are known
record Parts (row : Row) : Type 0 where
  first : is_slot row.first ≡ true
  second : is_slot row.second ≡ true
  third : is_slot row.third ≡ true
  field : is_field row.field ≡ true

parts_of : (row : Row) → is_row row ≡ true → Parts row
parts_of row known =
    let a = is_slot row.first in
    let b = is_slot row.second in
    let c = is_slot row.third in
    let d = is_field row.field in
    let three = and_parts (a && b && c) d known in
    let two = and_parts (a && b) c three.0 in
    let one = and_parts a b two.0 in
    record { first = one.0; second = one.1; third = two.1; field = three.1 }

pub known_row : (version : Version) (row : Row) → row.code < 2 ^ 6 →
    unwrap_or row.label 0 < most_in version → is_row row ≡ true → Known version row
known_row version row code label known =
    let is = parts_of row known in
    record {
      code = code;
      first = is.first;
      second = is.second;
      third = is.third;
      field = is.field;
      label = label;
    }

-- the number of a kind has two bits, that of a name six
pub kind_below : (slot : Slot) → kind slot < 2 ^ 2
kind_below absent = omega arith
kind_below (chain names) = omega arith
kind_below (number n) = omega arith
kind_below (text codes) = omega arith

pub field_below : (field : Option ℕ) → is_field field ≡ true → unwrap_or field no_name < 2 ^ 6
field_below None known = omega arith
field_below (Some name) known = omega (arith, ltb-true name name_count known)

-- and that of a label eighteen
pub label_below : (version : Version) (label : Option ℕ) → unwrap_or label 0 < most_in version →
    label_number version label < 2 ^ 18
label_below version None below = omega arith
label_below One (Some label) below = omega (arith, below)
label_below Two (Some label) below = omega (arith, below)

-- the fields of a row's first word, which have room for what they hold
abbrev pub head_fields : Version → Row → List BitField
head_fields version row =
    bits 6 row.code ∷ bits 2 (kind row.first) ∷ bits 2 (kind row.second)
    ∷ bits 2 (kind row.third) ∷ bits 6 (unwrap_or row.field no_name)
    ∷ bits 18 (label_number version row.label) ∷ []

pub head_fit : (version : Version) (row : Row) → Known version row →
    AllFit (head_fields version row)
head_fit version row known = (
  known.code,
  (
    kind_below row.first,
    (
      kind_below row.second,
      (
        kind_below row.third,
        (
          field_below row.field known.field,
          (label_below version row.label known.label, tt),
        ),
      ),
    ),
  ),
)

-- a name is found again in its field
name_if_again : (field : Option ℕ) → is_field field ≡ true →
    name_if (unwrap_or field no_name) ≡ field
name_if_again None known = refl
name_if_again (Some name) known = rw known refl

-- a label is found again in its bits
label_in_again : (version : Version) (word : ℕ) (label : Option ℕ) →
    unwrap_or label 0 < most_in version → word % 2 ^ 18 ≡ label_number version label →
    label_in version word ≡ label
label_in_again One word None below is =
    let flagged : word / 2 ^ 12 % 2 ≡ 0 = omega (arith, is) in
    rw flagged refl
label_in_again One word (Some label) below is =
    let flagged : word / 2 ^ 12 % 2 ≡ 1 = omega (arith, is, below) in
    let determined : word % 2 ^ 12 ≡ label = omega (arith, is, below) in
    rw (flagged, determined) refl
label_in_again Two word None below is =
    let determined : word % 2 ^ 16 ≡ 0 = omega (arith, is) in
    rw determined refl
label_in_again Two word (Some label) below is =
    let determined : word % 2 ^ 16 ≡ suc label = omega (arith, is, below) in
    let some : nat_eq (word % 2 ^ 16) 0 ≡ false =
    ne_eqb (word % 2 ^ 16) 0 (λ none. absurd (omega (arith, determined, none))) in
    let less : word % 2 ^ 16 - 1 ≡ label = omega (arith, determined) in
    rw (some, less) refl

-- a row is found again in words that begin with one that has its fields
row_at_again : (version : Version) (row : Row) (head : ℕ) (rest : List ℕ) →
    Known version row →
    unpacked (6 ∷ 2 ∷ 2 ∷ 2 ∷ 6 ∷ 18 ∷ []) head ≡ values (head_fields version row) →
    row_at version (head ∷ slot_words row.first
    ++ (slot_words row.second ++ (slot_words row.third ++ rest)))
    ≡ Some (row, rest)
unfolding row_at
row_at_again version row head rest known is =
    let at = λ (place : ℕ). ap (λ (xs : List ℕ). get_or xs place 0) is in
    let code : head / 2 ^ 30 % 64 ≡ row.code = at 0 in
    let first : head / 2 ^ 28 % 4 ≡ kind row.first = at 1 in
    let second : head / 2 ^ 26 % 4 ≡ kind row.second = at 2 in
    let third : head / 2 ^ 24 % 4 ≡ kind row.third = at 3 in
    let field : head / 2 ^ 18 % 64 ≡ unwrap_or row.field no_name = at 4 in
    let whole : head ≡ head / 1 = omega arith in
    let labelled : head % 2 ^ 18 ≡ label_number version row.label =
    ap (λ n. n % 2 ^ 18) whole ∙ at 5 in
    rw (
      first,
      slot_again row.first (slot_words row.second ++ (slot_words row.third ++ rest))
          known.first,
      second,
      slot_again row.second (slot_words row.third ++ rest) known.second,
      third,
      slot_again row.third rest known.third,
      code,
      field,
      name_if_again row.field known.field,
      label_in_again version head row.label known.label labelled,
    ) refl

-- a row is found again in its words, and what follows them
pub row_again : (version : Version) (row : Row) (rest : List ℕ) → Known version row →
    row_at version (row_words version row ++ rest) ≡ Some (row, rest)
row_again version row rest known =
    let a = slot_words row.first in
    let b = slot_words row.second in
    let c = slot_words row.third in
    let regrouped : (a ++ b ++ c) ++ rest ≡ a ++ (b ++ (c ++ rest)) =
    append_assoc (a ++ b) c rest ∙ append_assoc a b (c ++ rest) in
    ap (λ xs. row_at version (row_head version row ∷ xs)) regrouped
    ∙ row_at_again version row (row_head version row) rest known
    (unpacked_packed (head_fields version row) (head_fit version row known))

-- operands are found again in their slots
chain_again : (names : List ℕ) → is_slot (chain names) ≡ true → chain_in (chain names) ≡ Some names
unfolding chain_in
chain_again names known = rw known refl

operand_again : (v : Operand) → is_slot (operand v) ≡ true → operand_in (operand v) ≡ Some v
unfolding operand_in
operand_again (Chain names) known = rw known refl
operand_again (Number n) known = rw known refl

chain_if_given_again : (d : Option (List ℕ)) → is_slot (chain_if_given d) ≡ true →
    chain_if_given_in (chain_if_given d) ≡ Some d
unfolding chain_if_given_in
chain_if_given_again None known = refl
chain_if_given_again (Some names) known = rw known refl

operand_if_given_again : (v : Option Operand) → is_slot (operand_if_given v) ≡ true →
    operand_if_given_in (operand_if_given v) ≡ Some v
unfolding operand_if_given_in operand_in
operand_if_given_again None known = refl
operand_if_given_again (Some (Chain names)) known = rw known refl
operand_if_given_again (Some (Number n)) known = rw known refl

statement_again : (n : ℕ) → n < 2 ^ 16 → statement_in (number n) ≡ Some n
unfolding statement_in
statement_again n below = rw (lt-ltb n (2 ^ 16) below) refl

text_again : (codes : List ℕ) → is_slot (text codes) ≡ true → text_in (text codes) ≡ Some codes
unfolding text_in
text_again codes known = rw known refl

-- what has a chain and an operand is found again
two_again : {A : Type 0} (make : List ℕ → Operand → A) (code : ℕ) (c : List ℕ) (v : Operand)
    (third : Slot) (field label : Option ℕ) →
    is_row (row code (chain c) (operand v) third field label) ≡ true →
    of_two make (row code (chain c) (operand v) third field label) ≡ Some (make c v)
two_again make code c v third field label known =
    let is = parts_of (row code (chain c) (operand v) third field label) known in
    rw (chain_again c is.first, operand_again v is.second) refl

-- what has a chain
one_again : {A : Type 0} (make : List ℕ → A) (code : ℕ) (c : List ℕ)
    (second third : Slot) (field label : Option ℕ) →
    is_row (row code (chain c) second third field label) ≡ true →
    of_one make (row code (chain c) second third field label) ≡ Some (make c)
one_again make code c second third field label known =
    let is = parts_of (row code (chain c) second third field label) known in
    rw (chain_again c is.first) refl

-- a comparison is found again in its code
comparison_again : (comparison : Comparison) →
    comparison_of (code_of_comparison comparison) ≡ Some comparison
comparison_again Equal = refl
comparison_again NotEqual = refl
comparison_again Greater = refl
comparison_again Less = refl
comparison_again AllOnes = refl
comparison_again AllZeros = refl

-- a test is found again in its row
pub test_again : (test : Test) → is_row (row_of_test test) ≡ true →
    test_of (row_of_test test) ≡ Some test
unfolding test_of
test_again test known =
    let is = parts_of (row_of_test test) known in
    let found = comparison_again test.comparison in
    rw (found, chain_again test.chain is.first, operand_again test.operand is.second) refl

-- an operation is found again in its row
pub operation_again : (operation : Op ℕ) → is_row (row_of operation) ≡ true →
    list_all (is_below (2 ^ 16)) (targets_of_operation operation) ≡ true →
    operation_of (row_of operation) ≡ Some operation
unfolding operation_of
operation_again (Set c v) known _ = two_again Set 1 c v absent None None known
operation_again (Add c v) known _ = two_again Add 2 c v absent None None known
operation_again (Subtract c v) known _ = two_again Subtract 3 c v absent None None known
operation_again (Multiply c v) known _ = two_again Multiply 4 c v absent None None known
operation_again (Divide c v) known _ = two_again Divide 5 c v absent None None known
operation_again (Remainder c v) known _ = two_again Remainder 6 c v absent None None known
operation_again (And c v) known _ = two_again And 7 c v absent None None known
operation_again (Or c v) known _ = two_again Or 8 c v absent None None known
operation_again (ExclusiveOr c v) known _ = two_again ExclusiveOr 9 c v absent None None known
operation_again (Complement c v) known _ = two_again Complement 10 c v absent None None known
operation_again (ShiftLeft c v) known _ = two_again ShiftLeft 11 c v absent None None known
operation_again (ShiftRight c v) known _ = two_again ShiftRight 12 c v absent None None known
operation_again (Exchange c d) known _ =
    let is = parts_of (row_of (Exchange c d)) known in
    rw (chain_again c is.first, chain_again d is.second) refl
operation_again (Define f w a z) known _ =
    let is = parts_of (row_of (Define f w a z)) known in
    rw (operand_again w is.first, operand_again a is.second, operand_again z is.third) refl
operation_again (SaveContent c) known _ = one_again SaveContent 15 c absent absent None None known
operation_again (RestoreContent c) known _ =
    one_again RestoreContent 16 c absent absent None None known
operation_again (SaveDefinition f) known _ = refl
operation_again (RestoreDefinition f) known _ = refl
operation_again (Get c v d label) known _ =
    let is = parts_of (row_of (Get c v d label)) known in
    rw (chain_again c is.first, operand_again v is.second, chain_if_given_again d is.third) refl
operation_again (Duplicate c v label) known _ =
    two_again (λ c v. Duplicate c v label) 20 c v absent None label known
operation_again (Free c v) known _ =
    let is = parts_of (row_of (Free c v)) known in
    rw (chain_again c is.first, operand_if_given_again v is.second) refl
operation_again (Call called fail) known below =
    let first = and_parts (is_below (2 ^ 16) called)
    (list_all (is_below (2 ^ 16)) (option_to_list fail)) below in
    rw (statement_again called (ltb-true called (2 ^ 16) first.0)) refl
operation_again (Input c v label) known _ =
    two_again (λ c v. Input c v label) 23 c v absent None label known
operation_again (PrintCharacters c v) known _ =
    two_again PrintCharacters 24 c v absent None None known
operation_again (PrintDecimal c) known _ = one_again PrintDecimal 25 c absent absent None None known
operation_again (PrintOctal c) known _ = one_again PrintOctal 26 c absent absent None None known
operation_again (PrintText codes) known _ =
    let is = parts_of (row_of (PrintText codes)) known in
    rw (text_again codes is.first) refl
operation_again PrintLine known _ = refl
