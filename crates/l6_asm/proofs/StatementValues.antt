-- The program that a deck spells is one, and has an image.
use Rattle.std.proofs.Common.{◌≡◌, ℕ, List, [], ◌∷◌, ◌++◌, length, map, Bool, true, is_ok, Option, Some, None, Ok, refl, ap, sym, ◌∙◌, subst, arith, length-append}
use Rattle.std.specs.List.{All, list_all}
use Rattle.std.specs.Option.{option_map, option_and_then}
use Rattle.std.proofs.lemmas.Bool.{and_from}
use Rattle.std.proofs.lemmas.List.Elements.{All-head, All-tail}
use Rattle.l6_prog.specs.Statement.{Parts, plain_done}
use Rattle.l6_prog.specs.Program.{program_of}
use Rattle.l6_prog.specs.Values.{is_test, is_operation, has_values}
use Rattle.l6_prog.specs.declared.condition.Test.{Test}
use Rattle.l6_prog.specs.declared.operation.Op.{Op}
use Rattle.l6_prog.specs.declared.operation.Op.TheVariants.{Get, Duplicate, Call, Input, Set, Add, Subtract, Multiply, Divide, Remainder, And, Or, ExclusiveOr, Complement, ShiftLeft, ShiftRight, Exchange, Define, SaveContent, RestoreContent, SaveDefinition, RestoreDefinition, Free, PrintCharacters, PrintDecimal, PrintOctal, PrintText, PrintLine}
use Rattle.l6_prog.proofs.Programs.{is_program}
use Rattle.l6_group.specs.declared.label.Label.{Label}
use Rattle.l6_group.specs.Operation.{operation_of}
use Rattle.l6_group.specs.Test.{test_of}
use Rattle.l6_card.specs.declared.cards.Placed.{Placed}
use Rattle.l6_card.specs.Laws.{IsSpelled, AreSpelled}
use Rattle.l6_card.specs.Statement.{DeckStatementParts}
use Rattle.l6_card.proofs.Settling.{within_limits}
use Rattle.l6_card.proofs.Spans.{groups_are_at_spans}
use Rattle.l6_asm.specs.Labels.{number_of, labels_of}
use Rattle.l6_asm.specs.Laws.{DecksHaveImages}
use Rattle.l6_asm.specs.Resolution.{number_if_given, resolved, operation_of as made_operation, each_made, statement_of, statements_of}
use Rattle.l6_asm.proofs.Labels.{went_on}
use Rattle.l6_asm.proofs.Makings.{both_made, each_made-length}
use Rattle.l6_asm.proofs.Programs.{found_operation, statement_made, each_good, program_of_made}
use Rattle.l6_asm.proofs.GroupValues.{operation_values, test_values}

-- what was made of an operation by a choice of its labels has its values
chosen : {A : Type 0} (make : A → Op ℕ) (found : Option A) (made : Op ℕ) (good : Bool) →
    ((label : A) → is_operation (make label) ≡ good) → option_map make found ≡ Some made →
    is_operation made ≡ good
chosen make None made good each so = absurd (cc)
chosen make (Some label) made good each so =
    let same : make label ≡ made = cc in
    ap (λ o. is_operation o) (sym same) ∙ each label

called : (found : Option ℕ) (fail : Option (Option ℕ)) (made : Op ℕ) →
    option_and_then (λ n. option_and_then (λ o. Some (Call n o)) fail) found ≡ Some made →
    is_operation made ≡ true
called None fail made so = absurd (cc)
called (Some number) None made so = absurd (cc)
called (Some number) (Some other) made so =
    let same : Call number other ≡ made = cc in
    ap (λ o. is_operation o) (sym same)

-- so do those without a label
unchanged : (operation made : Op ℕ) → ◌≡◌ {A = Option (Op ℕ)} (Some operation) (Some made) →
    is_operation made ≡ is_operation operation
unchanged operation made so =
    let same : operation ≡ made = cc in
    ap (λ o. is_operation o) (sym same)

-- numbers in place of labels change no values
resolved_values : (labels : List (Label × ℕ)) (operation : Op Label) (made : Op ℕ) →
    resolved labels operation ≡ Some made → is_operation made ≡ is_operation operation
resolved_values labels (Get c v d label) made so =
    chosen (Get c v d) (number_if_given labels label) made _ (λ given. refl) so
resolved_values labels (Duplicate c v label) made so =
    chosen (Duplicate c v) (number_if_given labels label) made _ (λ given. refl) so
resolved_values labels (Call label fail) made so =
    called (number_of labels label) (number_if_given labels fail) made so
resolved_values labels (Input c v label) made so =
    chosen (Input c v) (number_if_given labels label) made _ (λ given. refl) so
resolved_values labels (Set c v) made so = unchanged (Set c v) made so
resolved_values labels (Add c v) made so = unchanged (Add c v) made so
resolved_values labels (Subtract c v) made so = unchanged (Subtract c v) made so
resolved_values labels (Multiply c v) made so = unchanged (Multiply c v) made so
resolved_values labels (Divide c v) made so = unchanged (Divide c v) made so
resolved_values labels (Remainder c v) made so = unchanged (Remainder c v) made so
resolved_values labels (And c v) made so = unchanged (And c v) made so
resolved_values labels (Or c v) made so = unchanged (Or c v) made so
resolved_values labels (ExclusiveOr c v) made so = unchanged (ExclusiveOr c v) made so
resolved_values labels (Complement c v) made so = unchanged (Complement c v) made so
resolved_values labels (ShiftLeft c v) made so = unchanged (ShiftLeft c v) made so
resolved_values labels (ShiftRight c v) made so = unchanged (ShiftRight c v) made so
resolved_values labels (Exchange c d) made so = unchanged (Exchange c d) made so
resolved_values labels (Define f w a z) made so = unchanged (Define f w a z) made so
resolved_values labels (SaveContent c) made so = unchanged (SaveContent c) made so
resolved_values labels (RestoreContent c) made so = unchanged (RestoreContent c) made so
resolved_values labels (SaveDefinition f) made so = unchanged (SaveDefinition f) made so
resolved_values labels (RestoreDefinition f) made so = unchanged (RestoreDefinition f) made so
resolved_values labels (Free c v) made so = unchanged (Free c v) made so
resolved_values labels (PrintCharacters c v) made so = unchanged (PrintCharacters c v) made so
resolved_values labels (PrintDecimal c) made so = unchanged (PrintDecimal c) made so
resolved_values labels (PrintOctal c) made so = unchanged (PrintOctal c) made so
resolved_values labels (PrintText text) made so = unchanged (PrintText text) made so
resolved_values labels PrintLine made so = unchanged PrintLine made so

module _ (deck : List ℕ) where
  -- the tests of a statement are tests
  tests-values : (tests : List (Placed Test)) → All (IsSpelled test_of deck) tests →
      list_all is_test (map (λ (group : Placed Test). group.reading) tests) ≡ true
  tests-values [] each = refl
  tests-values (test ∷ tests) each =
      let spelled = All-head (IsSpelled test_of deck) test tests each in
      and_from (is_test test.reading)
      (list_all is_test (map (λ (group : Placed Test). group.reading) tests))
      (test_values spelled.columns test.reading spelled.reads)
      (tests-values tests (All-tail (IsSpelled test_of deck) test tests each))

  module _ (labels : List (Label × ℕ)) where
    -- its operations are operations
    operations-values : (groups : List (Placed (Op Label))) (made : List (Op ℕ)) →
        All (IsSpelled operation_of deck) groups →
        each_made (made_operation labels) groups ≡ Ok made →
        list_all (λ o. is_operation o) made ≡ true
    operations-values [] made each so =
        let none : [] ≡ made = cc in
        ap (list_all (λ o. is_operation o)) (sym none)
    operations-values (group ∷ groups) made each so =
        let parts = both_made (made_operation labels group) (each_made (made_operation labels) groups)
        made so in
        let spelled = All-head (IsSpelled operation_of deck) group groups each in
        let found = found_operation group.card (resolved labels group.reading) parts.first
        parts.first_is in
        ap (list_all (λ o. is_operation o)) (sym parts.whole)
        ∙ and_from (is_operation parts.first) (list_all (λ o. is_operation o) parts.rest)
        (resolved_values labels group.reading parts.first found
        ∙ operation_values spelled.columns group.reading spelled.reads)
        (operations-values groups parts.rest
        (All-tail (IsSpelled operation_of deck) group groups each) parts.rest_is)

    -- so a statement has values
    statement-values : (written : DeckStatementParts) (made : Parts) → AreSpelled deck written →
        statement_of labels written ≡ Ok made → has_values made ≡ true
    statement-values written made spelled so =
        let m = statement_made labels written made so in
        let tests = map (λ (group : Placed Test). group.reading) written.tests in
        ap (λ (s : Parts). has_values s) (sym m.whole)
        ∙ and_from (list_all is_test tests) (list_all (λ o. is_operation o) m.operations)
        (tests-values written.tests spelled.tests)
        (operations-values written.operations m.operations spelled.operations m.operations_are)

    statements-values : (written : List DeckStatementParts) (made : List Parts) →
        All (AreSpelled deck) written → each_made (statement_of labels) written ≡ Ok made →
        list_all has_values made ≡ true
    statements-values [] made each so =
        let none : [] ≡ made = cc in
        ap (list_all has_values) (sym none)
    statements-values (one ∷ written) made each so =
        let parts = both_made (statement_of labels one) (each_made (statement_of labels) written) made
        so in
        ap (list_all has_values) (sym parts.whole)
        ∙ and_from (has_values parts.first) (list_all has_values parts.rest)
        (statement-values one parts.first (All-head (AreSpelled deck) one written each) parts.first_is)
        (statements-values written parts.rest (All-tail (AreSpelled deck) one written each)
        parts.rest_is)

-- what a deck spells is a program, and so it has an image
pub decks_have_images : DecksHaveImages
decks_have_images deck assembly spells =
    let written = spells.written in
    let labelled = went_on (labels_of written) _ assembly spells.whole in
    let labels = labelled.0 in
    let stated = went_on (statements_of labels written) _ assembly labelled.2 in
    let made = went_on (each_made (statement_of labels) written) _ stated.0 stated.1 in
    let program : made.0 ++ plain_done ∷ [] ≡ assembly.program = cc (stated.2, made.2) in
    let same : stated.0 ≡ assembly.program = cc (stated.2) in
    let limits = within_limits deck written spells.reads in
    let values = each_good has_values made.0
    (statements-values deck labels written made.0 (groups_are_at_spans deck written spells.reads)
    made.1) refl in
    let taken = program_of_made written labels stated.0 limits labelled.1 stated.1 in
    let count = each_made-length (statement_of labels) written made.0 made.1 in
    record {
      is =
          is_program assembly.program
          (subst (λ (p : List Parts). is_ok (program_of p) ≡ true) same (ap is_ok taken))
          (ap (list_all has_values) (sym program) ∙ values);
      few =
          omega (
            arith,
            ap (λ (p : List Parts). length p) program,
            length-append made.0 (plain_done ∷ []),
            count,
            limits.count,
          );
    }
