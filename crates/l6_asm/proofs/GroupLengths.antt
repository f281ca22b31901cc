-- A test or an operation has few words for the columns of its group.
use Rattle.std.proofs.Common.{◌≡◌, ℕ, ◌+◌, ◌*◌, ◌≤◌, ◌<◌, List, [], ◌∷◌, length, Option, Some, None, refl, ap, arith, codes}
use Rattle.l6_prog.specs.declared.operand.Operand.{Operand}
use Rattle.l6_prog.specs.declared.condition.Test.{Test}
use Rattle.l6_prog.specs.declared.operation.Op.{Op}
use Rattle.l6_prog.specs.declared.operation.Op.TheVariants as op
use Rattle.l6_group.specs.declared.label.Label.{Label}
use Rattle.l6_group.specs.Character.{spelled}
use Rattle.l6_group.specs.Element.{elements_of, chain_of, operand_of, field_of, chain_if_given, nothing_given}
use Rattle.l6_group.specs.Label.{label_of}
use Rattle.l6_group.specs.Number.{print_text_of}
use Rattle.l6_group.specs.Spelling.{find_spelled}
use Rattle.l6_group.specs.Value.{value_of}
use Rattle.l6_group.specs.Operation.{one, two, three, four, field_operations, field_operation, content_operations, content_operation, definition_operations, definition_operation, spellings_of_one, spellings_of_two, spellings_of_three, spellings_of_four, spellings_of_five, defined_field, definition, operation_from, operation_of}
use Rattle.l6_group.specs.Test.{comparison_of, test_by, test_from, test_of}
use Rattle.l6_image.proofs.Slots.{length_sixes}
use Rattle.l6_asm.proofs.ElementLengths.{columns_in, columns_elements, spelled_few, both_read, has_character, print_text_length, HasEach, ◌also◌, found_has, found_or_has}
use Rattle.l6_asm.proofs.RowLengths.{operation_count, test_count}

-- what this verb makes by a reading of one other element, of two, three or four, has few words: twice
-- as many are at most the columns of the verb and of the others, the commas between them, and two
-- parentheses
abbrev FewOfOne : List ℕ → (List ℕ → Option (Op Label)) → Type 0
FewOfOne verb reading =
    (a : List ℕ) (made : Op Label) → reading a ≡ Some made →
    2 * operation_count made ≤ length a + length verb + 3

abbrev FewOfTwo : List ℕ → (List ℕ → List ℕ → Option (Op Label)) → Type 0
FewOfTwo verb reading =
    (a b : List ℕ) (made : Op Label) → reading a b ≡ Some made →
    2 * operation_count made ≤ length a + length verb + length b + 4

abbrev FewOfThree : List ℕ → (List ℕ → List ℕ → List ℕ → Option (Op Label)) → Type 0
FewOfThree verb reading =
    (a b d : List ℕ) (made : Op Label) → reading a b d ≡ Some made →
    2 * operation_count made ≤ length a + length verb + length b + length d + 5

abbrev FewOfFour : List ℕ → (List ℕ → List ℕ → List ℕ → List ℕ → Option (Op Label)) → Type 0
FewOfFour verb reading =
    (a b d e : List ℕ) (made : Op Label) → reading a b d e ≡ Some made →
    2 * operation_count made ≤ length a + length verb + length b + length d + length e + 6

-- it has few words if that is so whatever the elements say; of two elements and of three the first is
-- not empty
few_of_one : (verb : List ℕ) {A : Type 0} (first : List ℕ → Option A) (make : A → Op Label) →
    ((x : A) → 2 * operation_count (make x) ≤ length verb + 3) → FewOfOne verb (one first make)
few_of_one verb first make few a made so =
    let read = both_read (first a) (λ x. Some (make x)) made so in
    let same : make read.0 ≡ made = cc (read.2) in
    omega (arith, few read.0, ap (λ o. operation_count o) same)

few_of_two : (verb : List ℕ) {A B : Type 0} (first : List ℕ → Option A)
    (second : List ℕ → Option B) (make : A → B → Op Label) → first [] ≡ None →
    ((x : A) (y : B) → 2 * operation_count (make x y) ≤ length verb + 5) →
    FewOfTwo verb (two first second make)
few_of_two verb first second make none few a b made so =
    let read = both_read (first a) _ made so in
    let then = both_read (second b) (λ y. Some (make read.0 y)) made read.2 in
    let same : make read.0 then.0 ≡ made = cc (then.2) in
    omega (
      arith,
      has_character first a read.0 none read.1,
      few read.0 then.0,
      ap (λ o. operation_count o) same,
    )

few_of_three : (verb : List ℕ) {A B D : Type 0} (first : List ℕ → Option A)
    (second : List ℕ → Option B) (third : List ℕ → Option D) (make : A → B → D → Op Label) →
    first [] ≡ None →
    ((x : A) (y : B) (z : D) → 2 * operation_count (make x y z) ≤ length verb + 6) →
    FewOfThree verb (three first second third make)
few_of_three verb first second third make none few a b d made so =
    let read = both_read (first a) _ made so in
    let then = both_read (second b) _ made read.2 in
    let last = both_read (third d) (λ z. Some (make read.0 then.0 z)) made then.2 in
    let same : make read.0 then.0 last.0 ≡ made = cc (last.2) in
    omega (
      arith,
      has_character first a read.0 none read.1,
      few read.0 then.0 last.0,
      ap (λ o. operation_count o) same,
    )

few_of_four : (verb : List ℕ) {A B D E : Type 0} (first : List ℕ → Option A)
    (second : List ℕ → Option B) (third : List ℕ → Option D) (fourth : List ℕ → Option E)
    (make : A → B → D → E → Op Label) →
    ((x : A) (y : B) (z : D) (w : E) → 2 * operation_count (make x y z w) ≤ length verb + 6) →
    FewOfFour verb (four first second third fourth make)
few_of_four verb first second third fourth make few a b d e made so =
    let read = both_read (first a) _ made so in
    let then = both_read (second b) _ made read.2 in
    let more = both_read (third d) _ made then.2 in
    let last = both_read (fourth e) (λ w. Some (make read.0 then.0 more.0 w)) made more.2 in
    let same : make read.0 then.0 more.0 last.0 ≡ made = cc (last.2) in
    omega (arith, few read.0 then.0 more.0 last.0, ap (λ o. operation_count o) same)

-- a printed text has a word for each six of its columns, and one for those that are left
few_of_text : FewOfOne (codes "PH") (one print_text_of op.PrintText)
few_of_text a made so =
    let read = both_read (print_text_of a) (λ text. Some (op.PrintText text)) made so in
    let same : op.PrintText read.0 ≡ made = cc (read.2) in
    omega (
      arith,
      ap (λ o. operation_count o) same,
      print_text_length a read.0 read.1,
      length_sixes read.0,
    )

-- a field operation has three words, whatever its letter
abbrev HasThree : List ℕ → (List ℕ → Operand → Op Label) → Type 0
HasThree letters make = (c : List ℕ) (v : Operand) → operation_count (make c v) ≡ 3

each_of_letters : HasEach HasThree field_operations
each_of_letters =
    let so : (c : List ℕ) (v : Operand) → 3 ≡ 3 = λ c v. refl in
    so also so also so also so also so also so also so also so also so also so also so also so also tt

-- a field operation has few words
few_of_field : (verb : List ℕ) → FewOfTwo verb (field_operation verb)
few_of_field [] a b made so = absurd (cc)
few_of_field (letter ∷ suffix) a b made so =
    let read = both_read (chain_of a) _ made so in
    let then = both_read (value_of suffix b) _ made read.2 in
    let last = both_read (find_spelled field_operations (letter ∷ []))
    (λ make. Some (make read.0 then.0)) made then.2 in
    let same : last.0 read.0 then.0 ≡ made = cc (last.2) in
    omega (
      arith,
      has_character chain_of a read.0 refl read.1,
      found_has HasThree field_operations (letter ∷ []) last.0 each_of_letters last.1 read.0 then.0,
      ap (λ o. operation_count o) same,
    )

-- the verb of a definition is two characters
verb_of_definition : (verb : List ℕ) (field : ℕ) → defined_field verb ≡ Some field → length verb ≡ 2
verb_of_definition [] field so = absurd (cc)
verb_of_definition (letter ∷ []) field so = absurd (cc)
verb_of_definition (letter ∷ name ∷ []) field so = refl
verb_of_definition (letter ∷ name ∷ other ∷ rest) field so = absurd (cc)

-- a definition has few words
few_of_definition : (verb : List ℕ) → FewOfThree verb (definition verb)
few_of_definition verb a b d made so =
    let named = both_read (defined_field verb) _ made so in
    few_of_three verb operand_of operand_of operand_of (op.Define named.0) refl
    (λ x y z. omega (arith, verb_of_definition verb named.0 named.1)) a b d made named.2

-- an operation on a pushdown has few words
each_of_contents : HasEach FewOfOne content_operations
each_of_contents =
    few_of_one (codes "S") chain_of op.SaveContent (λ c. omega arith)
    also few_of_one (codes "R") chain_of op.RestoreContent (λ c. omega arith)
    also tt

few_of_content : FewOfTwo (codes "FC") content_operation
few_of_content a b made so =
    let found = both_read (find_spelled content_operations (spelled a)) _ made so in
    let few =
    found_has FewOfOne content_operations (spelled a) found.0 each_of_contents found.1 b made found.2
    in
    omega (arith, few, spelled_few a)

each_of_definitions : HasEach FewOfOne definition_operations
each_of_definitions =
    few_of_one (codes "S") field_of op.SaveDefinition (λ f. omega arith)
    also few_of_one (codes "R") field_of op.RestoreDefinition (λ f. omega arith)
    also tt

few_of_pushed : FewOfTwo (codes "FD") definition_operation
few_of_pushed a b made so =
    let found = both_read (find_spelled definition_operations (spelled a)) _ made so in
    let few =
    found_has FewOfOne definition_operations (spelled a) found.0 each_of_definitions found.1 b made
    found.2 in
    omega (arith, few, spelled_few a)

-- each line of the tables has few words
abbrev FewAlone : List ℕ → Op Label → Type 0
FewAlone verb made = 2 * operation_count made ≤ length verb + 2

each_of_one : HasEach FewAlone spellings_of_one
each_of_one = (omega arith, tt)

each_of_two : HasEach FewOfOne spellings_of_two
each_of_two =
    few_of_one (codes "FR") chain_of (λ c. op.Free c None) (λ c. omega arith)
    also few_of_one (codes "DO") label_of (λ l. op.Call l None) (λ l. omega arith)
    also few_of_one (codes "PD") chain_of op.PrintDecimal (λ c. omega arith)
    also few_of_one (codes "PO") chain_of op.PrintOctal (λ c. omega arith)
    also few_of_text
    also tt

each_of_three : HasEach FewOfTwo spellings_of_three
each_of_three =
    few_of_two (codes "I") chain_of chain_of op.Exchange refl (λ c d. omega arith)
    also few_of_content
    also few_of_pushed
    also few_of_two (codes "GT") chain_of operand_of (λ c v. op.Get c v None None) refl
    (λ c v. omega arith)
    also few_of_two (codes "DP") chain_of operand_of (λ c v. op.Duplicate c v None) refl
    (λ c v. omega arith)
    also few_of_two (codes "FR") chain_of operand_of (λ c v. op.Free c (Some v)) refl
    (λ c v. omega arith)
    also few_of_two (codes "DO") label_of label_of (λ l fail. op.Call l (Some fail)) refl
    (λ l fail. omega arith)
    also few_of_two (codes "IN") chain_of operand_of (λ c v. op.Input c v None) refl
    (λ c v. omega arith)
    also few_of_two (codes "PR") chain_of operand_of op.PrintCharacters refl (λ c v. omega arith)
    also tt

each_of_four : HasEach FewOfThree spellings_of_four
each_of_four =
    few_of_three (codes "GT") chain_of operand_of chain_of (λ c v d. op.Get c v (Some d) None) refl
    (λ c v d. omega arith)
    also few_of_three (codes "IN") chain_of operand_of label_of (λ c v l. op.Input c v (Some l)) refl
    (λ c v l. omega arith)
    also tt

-- a get with a label has few words, with and without a second chain
few_of_get : (c : List ℕ) (v : Operand) (d : Option (List ℕ)) (l : Label) →
    2 * operation_count (op.Get c v d (Some l)) ≤ length (codes "GT") + 6
few_of_get c v None l = omega arith
few_of_get c v (Some d) l = omega arith

each_of_five : HasEach FewOfFour spellings_of_five
each_of_five =
    few_of_four (codes "GT") chain_of operand_of chain_if_given label_of
    (λ c v d l. op.Get c v d (Some l)) few_of_get
    also few_of_four (codes "DP") chain_of operand_of nothing_given label_of
    (λ c v n l. op.Duplicate c v (Some l)) (λ c v n l. omega arith)
    also tt

-- an operation has few words for the columns of its elements
few_of_elements : (elements : List (List ℕ)) (made : Op Label) →
    operation_from elements ≡ Some made →
    2 * operation_count made ≤ columns_in elements + 1
few_of_elements [] made so = absurd (cc)
few_of_elements (verb ∷ []) made so =
    let few = found_has FewAlone spellings_of_one (spelled verb) made each_of_one so in
    omega (arith, few, spelled_few verb)
few_of_elements (a ∷ verb ∷ []) made so =
    let found = both_read (find_spelled spellings_of_two (spelled verb)) _ made so in
    let few =
    found_has FewOfOne spellings_of_two (spelled verb) found.0 each_of_two found.1 a made found.2 in
    omega (arith, few, spelled_few verb)
few_of_elements (a ∷ verb ∷ b ∷ []) made so =
    let few =
    found_or_has FewOfTwo spellings_of_three (spelled verb) (field_operation (spelled verb))
    each_of_three (few_of_field (spelled verb)) a b made so in
    omega (arith, few, spelled_few verb)
few_of_elements (a ∷ verb ∷ b ∷ d ∷ []) made so =
    let few =
    found_or_has FewOfThree spellings_of_four (spelled verb) (definition (spelled verb))
    each_of_four (few_of_definition (spelled verb)) a b d made so in
    omega (arith, few, spelled_few verb)
few_of_elements (a ∷ verb ∷ b ∷ d ∷ e ∷ []) made so =
    let found = both_read (find_spelled spellings_of_five (spelled verb)) _ made so in
    let few =
    found_has FewOfFour spellings_of_five (spelled verb) found.0 each_of_five found.1 a b d e made
    found.2 in
    omega (arith, few, spelled_few verb)
few_of_elements (a ∷ b ∷ c ∷ d ∷ e ∷ f ∷ elements) made so = absurd (cc)

-- twice the words of an operation are at most the columns of its group, with the parentheses
pub operation_few : (columns : List ℕ) (made : Op Label) → operation_of columns ≡ Some made →
    2 * operation_count made ≤ length columns + 2
operation_few columns made so =
    omega (arith, few_of_elements (elements_of columns) made so, columns_elements columns)

-- the first element of a test, and the characters of its verb, are not empty
test_has_verb : (verb a b : List ℕ) (made : Test) → test_by verb a b ≡ Some made →
    (0 < length a) × (0 < length verb)
test_has_verb [] a b made so = absurd (cc)
test_has_verb (letter ∷ suffix) a b made so =
    let compared = both_read (comparison_of letter) _ made so in
    let read = both_read (chain_of a) _ made compared.2 in
    (has_character chain_of a read.0 refl read.1, omega arith)

-- a test has few words for the columns of its elements
few_of_test : (elements : List (List ℕ)) (made : Test) → test_from elements ≡ Some made →
    2 * test_count ≤ columns_in elements + 1
few_of_test [] made so = absurd (cc)
few_of_test (a ∷ []) made so = absurd (cc)
few_of_test (a ∷ b ∷ []) made so = absurd (cc)
few_of_test (a ∷ verb ∷ b ∷ []) made so =
    let some = test_has_verb (spelled verb) a b made so in
    omega (arith, some.0, some.1, spelled_few verb)
few_of_test (a ∷ b ∷ d ∷ e ∷ elements) made so = absurd (cc)

-- and so are twice the words of a test
pub test_few : (columns : List ℕ) (made : Test) → test_of columns ≡ Some made →
    2 * test_count ≤ length columns + 2
test_few columns made so =
    omega (arith, few_of_test (elements_of columns) made so, columns_elements columns)
