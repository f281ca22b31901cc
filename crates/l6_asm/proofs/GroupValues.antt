-- What groups spell has values: the parts of tests and operations are chains, words, names and texts.
use Rattle.std.proofs.Common.{◌≡◌, ℕ, List, [], ◌∷◌, Bool, true, false, cond, Option, Some, None, refl, ap, sym, ◌∙◌, codes}
use Rattle.std.specs.Prelude.{◌&&◌, ◌==◌}
use Rattle.std.specs.Str.{byte}
use Rattle.std.proofs.lemmas.Bool.{and_from}
use Rattle.l6_prog.specs.Chain.{is_name, is_chain}
use Rattle.l6_prog.specs.PrintText.{is_print_text}
use Rattle.l6_prog.specs.Values.{is_operand, is_chain_if_given, is_test, is_operation}
use Rattle.l6_prog.specs.declared.operand.Operand.{Operand}
use Rattle.l6_prog.specs.declared.condition.Test.{Test}
use Rattle.l6_prog.specs.declared.operation.Op.{Op}
use Rattle.l6_prog.specs.declared.operation.Op.TheVariants as op
use Rattle.l6_group.specs.declared.label.Label.{Label}
use Rattle.l6_group.specs.Character.{spelled, name_of}
use Rattle.l6_group.specs.Element.{elements_of, chain_of, operand_of, field_of, chain_if_given, nothing_given}
use Rattle.l6_group.specs.Label.{label_of}
use Rattle.l6_group.specs.Number.{print_text_of}
use Rattle.l6_group.specs.Spelling.{find_spelled}
use Rattle.l6_group.specs.Value.{value_of}
use Rattle.l6_group.specs.Operation.{one, two, three, four, field_operations, field_operation, content_operations, content_operation, definition_operations, definition_operation, spellings_of_one, spellings_of_two, spellings_of_three, spellings_of_four, spellings_of_five, defined_field, definition, operation_from, operation_of}
use Rattle.l6_group.specs.Test.{comparison_of, test_by, test_from, test_of}
use Rattle.l6_asm.proofs.ElementLengths.{both_read, HasEach, ◌also◌, found_has, found_or_has}
use Rattle.l6_asm.proofs.ElementValues.{Gives, chain_gives, given_gives, print_text_gives, operand_gives, value_gives, name_gives, field_gives}

-- what a verb makes by a reading of one other element, of two, three or four, has values
abbrev GoodOfOne : List ℕ → (List ℕ → Option (Op Label)) → Type 0
GoodOfOne verb reading =
    (a : List ℕ) (made : Op Label) → reading a ≡ Some made → is_operation made ≡ true

abbrev GoodOfTwo : List ℕ → (List ℕ → List ℕ → Option (Op Label)) → Type 0
GoodOfTwo verb reading =
    (a b : List ℕ) (made : Op Label) → reading a b ≡ Some made → is_operation made ≡ true

abbrev GoodOfThree : List ℕ → (List ℕ → List ℕ → List ℕ → Option (Op Label)) → Type 0
GoodOfThree verb reading =
    (a b d : List ℕ) (made : Op Label) → reading a b d ≡ Some made → is_operation made ≡ true

abbrev GoodOfFour : List ℕ → (List ℕ → List ℕ → List ℕ → List ℕ → Option (Op Label)) → Type 0
GoodOfFour verb reading =
    (a b d e : List ℕ) (made : Op Label) → reading a b d e ≡ Some made → is_operation made ≡ true

-- a label may be any
abbrev any : {A : Type 0} → A → Bool
any x = true

any_gives : {A : Type 0} (read : List ℕ → Option A) → Gives any read
any_gives read element x so = refl

-- it has values if what is made of parts that have them does
good_of_one : (verb : List ℕ) {A : Type 0} (first : List ℕ → Option A) (p : A → Bool)
    (make : A → Op Label) → Gives p first →
    ((x : A) → p x ≡ true → is_operation (make x) ≡ true) → GoodOfOne verb (one first make)
good_of_one verb first p make gives good a made so =
    let read = both_read (first a) (λ x. Some (make x)) made so in
    let same : make read.0 ≡ made = cc (read.2) in
    ap (λ o. is_operation o) (sym same) ∙ good read.0 (gives a read.0 read.1)

good_of_two : (verb : List ℕ) {A B : Type 0} (first : List ℕ → Option A)
    (second : List ℕ → Option B) (p : A → Bool) (q : B → Bool) (make : A → B → Op Label) →
    Gives p first → Gives q second →
    ((x : A) (y : B) → p x ≡ true → q y ≡ true → is_operation (make x y) ≡ true) →
    GoodOfTwo verb (two first second make)
good_of_two verb first second p q make gives gives' good a b made so =
    let read = both_read (first a) _ made so in
    let then = both_read (second b) (λ y. Some (make read.0 y)) made read.2 in
    let same : make read.0 then.0 ≡ made = cc (then.2) in
    ap (λ o. is_operation o) (sym same)
    ∙ good read.0 then.0 (gives a read.0 read.1) (gives' b then.0 then.1)

good_of_three : (verb : List ℕ) {A B D : Type 0} (first : List ℕ → Option A)
    (second : List ℕ → Option B) (third : List ℕ → Option D) (p : A → Bool) (q : B → Bool)
    (r : D → Bool) (make : A → B → D → Op Label) →
    Gives p first → Gives q second → Gives r third →
    ((x : A) (y : B) (z : D) → p x ≡ true → q y ≡ true → r z ≡ true →
    is_operation (make x y z) ≡ true) →
    GoodOfThree verb (three first second third make)
good_of_three verb first second third p q r make gives gives' gives'' good a b d made so =
    let read = both_read (first a) _ made so in
    let then = both_read (second b) _ made read.2 in
    let last = both_read (third d) (λ z. Some (make read.0 then.0 z)) made then.2 in
    let same : make read.0 then.0 last.0 ≡ made = cc (last.2) in
    ap (λ o. is_operation o) (sym same)
    ∙ good read.0 then.0 last.0 (gives a read.0 read.1) (gives' b then.0 then.1)
    (gives'' d last.0 last.1)

good_of_four : (verb : List ℕ) {A B D E : Type 0} (first : List ℕ → Option A)
    (second : List ℕ → Option B) (third : List ℕ → Option D) (fourth : List ℕ → Option E)
    (p : A → Bool) (q : B → Bool) (r : D → Bool) (make : A → B → D → E → Op Label) →
    Gives p first → Gives q second → Gives r third →
    ((x : A) (y : B) (z : D) (w : E) → p x ≡ true → q y ≡ true → r z ≡ true →
    is_operation (make x y z w) ≡ true) →
    GoodOfFour verb (four first second third fourth make)
good_of_four verb first second third fourth p q r make gives gives' gives'' good a b d e made so =
    let read = both_read (first a) _ made so in
    let then = both_read (second b) _ made read.2 in
    let more = both_read (third d) _ made then.2 in
    let last = both_read (fourth e) (λ w. Some (make read.0 then.0 more.0 w)) made more.2 in
    let same : make read.0 then.0 more.0 last.0 ≡ made = cc (last.2) in
    ap (λ o. is_operation o) (sym same)
    ∙ good read.0 then.0 more.0 last.0 (gives a read.0 read.1) (gives' b then.0 then.1)
    (gives'' d more.0 more.1)

-- a chain and an operand are values
with_operand : (c : List ℕ) (v : Operand) → is_chain c ≡ true → is_operand v ≡ true →
    (is_chain c && is_operand v) ≡ true
with_operand c v is is' = and_from (is_chain c) (is_operand v) is is'

-- a field operation has values, whatever its letter
abbrev GoodField : List ℕ → (List ℕ → Operand → Op Label) → Type 0
GoodField letters make =
    (c : List ℕ) (v : Operand) → is_chain c ≡ true → is_operand v ≡ true →
    is_operation (make c v) ≡ true

each_of_letters : HasEach GoodField field_operations
each_of_letters =
    let so = with_operand in
    so also so also so also so also so also so also so also so also so also so also so also so also tt

good_of_field : (verb : List ℕ) → GoodOfTwo verb (field_operation verb)
good_of_field [] a b made so = absurd (cc)
good_of_field (letter ∷ suffix) a b made so =
    let read = both_read (chain_of a) _ made so in
    let then = both_read (value_of suffix b) _ made read.2 in
    let last = both_read (find_spelled field_operations (letter ∷ []))
    (λ make. Some (make read.0 then.0)) made then.2 in
    let same : last.0 read.0 then.0 ≡ made = cc (last.2) in
    ap (λ o. is_operation o) (sym same)
    ∙ found_has GoodField field_operations (letter ∷ []) last.0 each_of_letters last.1 read.0 then.0
    (chain_gives a read.0 read.1) (value_gives suffix b then.0 then.1)

-- the field that a definition defines is a name
field_after : (letter name field : ℕ) (is : Bool) →
    cond is (name_of name) None ≡ Some field → is_name field ≡ true
field_after letter name field true so = name_gives name field so
field_after letter name field false so = absurd (cc)

defined_is_name : (verb : List ℕ) (field : ℕ) → defined_field verb ≡ Some field →
    is_name field ≡ true
defined_is_name [] field so = absurd (cc)
defined_is_name (letter ∷ []) field so = absurd (cc)
defined_is_name (letter ∷ name ∷ []) field so = field_after letter name field (letter == byte "D") so
defined_is_name (letter ∷ name ∷ other ∷ rest) field so = absurd (cc)

-- so a definition has values
good_of_definition : (verb : List ℕ) → GoodOfThree verb (definition verb)
good_of_definition verb a b d made so =
    let named = both_read (defined_field verb) _ made so in
    let is = defined_is_name verb named.0 named.1 in
    good_of_three verb operand_of operand_of operand_of is_operand is_operand is_operand
    (op.Define named.0) operand_gives operand_gives operand_gives
    (λ w x z word first last.
    and_from (is_name named.0 && is_operand w && is_operand x) (is_operand z)
    (and_from (is_name named.0 && is_operand w) (is_operand x)
    (and_from (is_name named.0) (is_operand w) is word) first) last)
    a b d made named.2

-- an operation on a pushdown has values
each_of_contents : HasEach GoodOfOne content_operations
each_of_contents =
    good_of_one (codes "S") chain_of is_chain op.SaveContent chain_gives (λ c is. is)
    also good_of_one (codes "R") chain_of is_chain op.RestoreContent chain_gives (λ c is. is)
    also tt

good_of_content : GoodOfTwo (codes "FC") content_operation
good_of_content a b made so =
    let found = both_read (find_spelled content_operations (spelled a)) _ made so in
    found_has GoodOfOne content_operations (spelled a) found.0 each_of_contents found.1 b made found.2

each_of_definitions : HasEach GoodOfOne definition_operations
each_of_definitions =
    good_of_one (codes "S") field_of is_name op.SaveDefinition field_gives (λ f is. is)
    also good_of_one (codes "R") field_of is_name op.RestoreDefinition field_gives (λ f is. is)
    also tt

good_of_pushed : GoodOfTwo (codes "FD") definition_operation
good_of_pushed a b made so =
    let found = both_read (find_spelled definition_operations (spelled a)) _ made so in
    found_has GoodOfOne definition_operations (spelled a) found.0 each_of_definitions found.1 b made
    found.2

-- what each line of the tables means has values
abbrev GoodAlone : List ℕ → Op Label → Type 0
GoodAlone verb made = is_operation made ≡ true

each_of_one : HasEach GoodAlone spellings_of_one
each_of_one = (refl, tt)

each_of_two : HasEach GoodOfOne spellings_of_two
each_of_two =
    good_of_one (codes "FR") chain_of is_chain (λ c. op.Free c None) chain_gives
    (λ c is. and_from (is_chain c) true is refl)
    also good_of_one (codes "DO") label_of any (λ l. op.Call l None) (any_gives label_of)
    (λ l is. refl)
    also good_of_one (codes "PD") chain_of is_chain op.PrintDecimal chain_gives (λ c is. is)
    also good_of_one (codes "PO") chain_of is_chain op.PrintOctal chain_gives (λ c is. is)
    also good_of_one (codes "PH") print_text_of is_print_text op.PrintText print_text_gives
    (λ t is. is)
    also tt

each_of_three : HasEach GoodOfTwo spellings_of_three
each_of_three =
    good_of_two (codes "I") chain_of chain_of is_chain is_chain op.Exchange chain_gives chain_gives
    (λ c d is is'. and_from (is_chain c) (is_chain d) is is')
    also good_of_content
    also good_of_pushed
    also good_of_two (codes "GT") chain_of operand_of is_chain is_operand
    (λ c v. op.Get c v None None) chain_gives operand_gives
    (λ c v is is'. and_from (is_chain c && is_operand v) true (with_operand c v is is') refl)
    also good_of_two (codes "DP") chain_of operand_of is_chain is_operand
    (λ c v. op.Duplicate c v None) chain_gives operand_gives with_operand
    also good_of_two (codes "FR") chain_of operand_of is_chain is_operand
    (λ c v. op.Free c (Some v)) chain_gives operand_gives with_operand
    also good_of_two (codes "DO") label_of label_of any any (λ l fail. op.Call l (Some fail))
    (any_gives label_of) (any_gives label_of) (λ l fail is is'. refl)
    also good_of_two (codes "IN") chain_of operand_of is_chain is_operand
    (λ c v. op.Input c v None) chain_gives operand_gives with_operand
    also good_of_two (codes "PR") chain_of operand_of is_chain is_operand op.PrintCharacters
    chain_gives operand_gives with_operand
    also tt

each_of_four : HasEach GoodOfThree spellings_of_four
each_of_four =
    good_of_three (codes "GT") chain_of operand_of chain_of is_chain is_operand is_chain
    (λ c v d. op.Get c v (Some d) None) chain_gives operand_gives chain_gives
    (λ c v d is is' is''.
    and_from (is_chain c && is_operand v) (is_chain d) (with_operand c v is is') is'')
    also good_of_three (codes "IN") chain_of operand_of label_of is_chain is_operand any
    (λ c v l. op.Input c v (Some l)) chain_gives operand_gives (any_gives label_of)
    (λ c v l is is' is''. with_operand c v is is')
    also tt

each_of_five : HasEach GoodOfFour spellings_of_five
each_of_five =
    good_of_four (codes "GT") chain_of operand_of chain_if_given label_of is_chain is_operand
    is_chain_if_given (λ c v d l. op.Get c v d (Some l)) chain_gives operand_gives given_gives
    (λ c v d l is is' is''.
    and_from (is_chain c && is_operand v) (is_chain_if_given d) (with_operand c v is is') is'')
    also good_of_four (codes "DP") chain_of operand_of nothing_given label_of is_chain is_operand any
    (λ c v n l. op.Duplicate c v (Some l)) chain_gives operand_gives (any_gives nothing_given)
    (λ c v n l is is' is''. with_operand c v is is')
    also tt

-- the operation of elements has values
good_of_elements : (elements : List (List ℕ)) (made : Op Label) →
    operation_from elements ≡ Some made → is_operation made ≡ true
good_of_elements [] made so = absurd (cc)
good_of_elements (verb ∷ []) made so =
    found_has GoodAlone spellings_of_one (spelled verb) made each_of_one so
good_of_elements (a ∷ verb ∷ []) made so =
    let found = both_read (find_spelled spellings_of_two (spelled verb)) _ made so in
    found_has GoodOfOne spellings_of_two (spelled verb) found.0 each_of_two found.1 a made found.2
good_of_elements (a ∷ verb ∷ b ∷ []) made so =
    found_or_has GoodOfTwo spellings_of_three (spelled verb) (field_operation (spelled verb))
    each_of_three (good_of_field (spelled verb)) a b made so
good_of_elements (a ∷ verb ∷ b ∷ d ∷ []) made so =
    found_or_has GoodOfThree spellings_of_four (spelled verb) (definition (spelled verb))
    each_of_four (good_of_definition (spelled verb)) a b d made so
good_of_elements (a ∷ verb ∷ b ∷ d ∷ e ∷ []) made so =
    let found = both_read (find_spelled spellings_of_five (spelled verb)) _ made so in
    found_has GoodOfFour spellings_of_five (spelled verb) found.0 each_of_five found.1 a b d e made
    found.2
good_of_elements (a ∷ b ∷ c ∷ d ∷ e ∷ f ∷ elements) made so = absurd (cc)

-- the operation that a group spells has values
pub operation_values : (columns : List ℕ) (made : Op Label) → operation_of columns ≡ Some made →
    is_operation made ≡ true
operation_values columns made so = good_of_elements (elements_of columns) made so

-- the test of a verb and two other elements has values
good_of_test : (verb a b : List ℕ) (made : Test) → test_by verb a b ≡ Some made →
    is_test made ≡ true
good_of_test [] a b made so = absurd (cc)
good_of_test (letter ∷ suffix) a b made so =
    let compared = both_read (comparison_of letter) _ made so in
    let read = both_read (chain_of a) _ made compared.2 in
    let then = both_read (value_of suffix b) _ made read.2 in
    let same : record { comparison = compared.0; chain = read.0; operand = then.0 } ≡ made =
    cc (then.2) in
    ap is_test (sym same)
    ∙ with_operand read.0 then.0 (chain_gives a read.0 read.1)
    (value_gives suffix b then.0 then.1)

good_of_tests : (elements : List (List ℕ)) (made : Test) → test_from elements ≡ Some made →
    is_test made ≡ true
good_of_tests [] made so = absurd (cc)
good_of_tests (a ∷ []) made so = absurd (cc)
good_of_tests (a ∷ b ∷ []) made so = absurd (cc)
good_of_tests (a ∷ verb ∷ b ∷ []) made so = good_of_test (spelled verb) a b made so
good_of_tests (a ∷ b ∷ d ∷ e ∷ elements) made so = absurd (cc)

-- and so has the test that a group spells
pub test_values : (columns : List ℕ) (made : Test) → test_of columns ≡ Some made →
    is_test made ≡ true
test_values columns made so = good_of_tests (elements_of columns) made so
