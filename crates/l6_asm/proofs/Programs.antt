-- What the cards of a deck say makes a program, once its labels are numbers.
use Rattle.std.proofs.Common.{◌≡◌, ℕ, ◌+◌, ◌-◌, ◌<◌, Bool, true, leb, ltb, List, [], ◌∷◌, ◌++◌, length, map, Option, Some, None, Ok, refl, sym, ap, ◌∙◌, subst, arith, slice_get}
use Rattle.std.specs.Prelude.{◌&&◌, option_to_list}
use Rattle.std.specs.List.{list_all, flat_map}
use Rattle.std.specs.Option.{option_map, option_and_then}
use Rattle.std.proofs.lemmas.Bool.{le-leb, and_from, and_parts}
use Rattle.std.proofs.lemmas.List.{length-append, length-map}
use Rattle.std.proofs.lemmas.List.Folds.{list_all-append}
use Rattle.std.proofs.lemmas.Option.{slice_get-get_or}
use Rattle.std.proofs.Math.Seq.{get_or-append_seam}
use Rattle.l6_prog.specs.Numerals.{most_statements, most_tests, most_operations}
use Rattle.l6_prog.specs.Statement.{Parts, plain_done}
use Rattle.l6_prog.specs.Target.{targets_of, targets_of_operation, targets_of_exit, is_below}
use Rattle.l6_prog.specs.Program.{fits, may_have, has_its_tests, program_of}
use Rattle.l6_prog.specs.declared.condition.Cond.{Cond}
use Rattle.l6_prog.specs.declared.condition.Test.{Test}
use Rattle.l6_prog.specs.declared.operation.Op.{Op}
use Rattle.l6_prog.specs.declared.operation.Op.TheVariants.{Get, Duplicate, Call, Input}
use Rattle.l6_prog.specs.declared.exit.Exit.{Exit}
use Rattle.l6_prog.specs.declared.exit.Exit.TheVariants.{Next, Label as ToLabel, Done, Fail}
use Rattle.l6_group.specs.declared.label.Label.{Label}
use Rattle.l6_card.specs.declared.cards.Placed.{Placed}
use Rattle.l6_card.specs.declared.cards.PlacedLabel.{PlacedLabel}
use Rattle.l6_card.specs.Statement.{DeckStatementParts, is_fit}
use Rattle.l6_card.specs.Laws.{AreWithinLimits}
use Rattle.l6_asm.specs.Labels.{number_of, labels_of, and_then}
use Rattle.l6_asm.specs.Resolution.{number_if_given, resolved, found_on, operation_of, exit_of, each_made, statement_of, statements_of}
use Rattle.l6_asm.proofs.Makings.{each_made-length, all_made}
use Rattle.l6_asm.proofs.Labels.{is_entry_below, went_on, labels_after_below, found_below}

-- a test of a list of lists in a row
all_flat : {A B : Type 0} (test : B → Bool) (f : A → List B) (xs : List A) →
    list_all (λ x. list_all test (f x)) xs ≡ true → list_all test (flat_map f xs) ≡ true
all_flat test f [] all = refl
all_flat test f (x ∷ xs) all =
    let parts = and_parts (list_all test (f x)) (list_all (λ y. list_all test (f y)) xs) all in
    list_all-append test (f x) (flat_map f xs)
    ∙ and_from (list_all test (f x)) (list_all test (flat_map f xs)) parts.0
    (all_flat test f xs parts.1)

-- what maps to something was something
mapped : {A B : Type 0} (f : A → B) (found : Option A) (made : B) →
    option_map f found ≡ Some made → (x : A) × (found ≡ Some x) × (f x ≡ made)
mapped f None made so = absurd (cc)
mapped f (Some x) made so = (x, refl, cc)

-- what was there where a fault would else be
pub found_operation : (card : ℕ) (found : Option (Op ℕ)) (made : Op ℕ) →
    found_on card found ≡ Ok made → found ≡ Some made
found_operation card None made so = absurd (cc)
found_operation card (Some one) made so = cc

module _ (end : ℕ) (labels : List (Label × ℕ)) (all : list_all (is_entry_below end) labels ≡ true)
  where
    given_below : (label : Option Label) (number : Option ℕ) →
        number_if_given labels label ≡ Some number →
        list_all (is_below end) (option_to_list number) ≡ true
    given_below None number found =
        let same : None ≡ number = cc in
        ap (λ n. list_all (is_below end) (option_to_list n)) (sym same)
    given_below (Some label) number found =
        let one = mapped Some (number_of labels label) number found in
        let below = found_below end labels label one.0 all one.1 in
        ap (λ n. list_all (is_below end) (option_to_list n)) (sym one.2)
        ∙ and_from (ltb one.0 end) true below refl

    -- an operation that names no label has no target
    no_target : (operation made : Op ℕ) →
        list_all (is_below end) (targets_of_operation operation) ≡ true →
        ◌≡◌ {A = Option (Op ℕ)} (Some operation) (Some made) →
        list_all (is_below end) (targets_of_operation made) ≡ true
    no_target operation made none so =
        let same : operation ≡ made = cc in
        ap (λ o. list_all (is_below end) (targets_of_operation o)) (sym same) ∙ none

    call_below : (called : Label) (fail : Option Label) (number : Option ℕ)
        (other : Option (Option ℕ)) (made : Op ℕ) →
        number_of labels called ≡ number → number_if_given labels fail ≡ other →
        option_and_then (λ n. option_and_then (λ o. Some (Call n o)) other) number ≡ Some made →
        list_all (is_below end) (targets_of_operation made) ≡ true
    call_below called fail None other made is_number is_other so = absurd (cc)
    call_below called fail (Some number) None made is_number is_other so = absurd (cc)
    call_below called fail (Some number) (Some other) made is_number is_other so =
        let same : Call number other ≡ made = cc in
        ap (λ o. list_all (is_below end) (targets_of_operation o)) (sym same)
        ∙ and_from (ltb number end) (list_all (is_below end) (option_to_list other))
        (found_below end labels called number all is_number) (given_below fail other is_other)

    -- the targets of an operation are below the end
    resolved_below : (operation : Op Label) (made : Op ℕ) →
        resolved labels operation ≡ Some made →
        list_all (is_below end) (targets_of_operation made) ≡ true
    resolved_below (Get c v d label) made so =
        let one = mapped (Get c v d) (number_if_given labels label) made so in
        ap (λ o. list_all (is_below end) (targets_of_operation o)) (sym one.2)
        ∙ given_below label one.0 one.1
    resolved_below (Duplicate c v label) made so =
        let one = mapped (Duplicate c v) (number_if_given labels label) made so in
        ap (λ o. list_all (is_below end) (targets_of_operation o)) (sym one.2)
        ∙ given_below label one.0 one.1
    resolved_below (Call called fail) made so =
        call_below called fail (number_of labels called) (number_if_given labels fail)
        made refl refl so
    resolved_below (Input c v label) made so =
        let one = mapped (Input c v) (number_if_given labels label) made so in
        ap (λ o. list_all (is_below end) (targets_of_operation o)) (sym one.2)
        ∙ given_below label one.0 one.1
    resolved_below _ made so = no_target _ made refl so

    operation_below : (group : Placed (Op Label)) (made : Op ℕ) → true ≡ true →
        operation_of labels group ≡ Ok made →
        list_all (is_below end) (targets_of_operation made) ≡ true
    operation_below group made always so =
        resolved_below group.reading made
        (found_operation group.card (resolved labels group.reading) made so)

    found_exit : (card : ℕ) (found : Option ℕ) (made : Exit ℕ) →
        found_on card (option_map ToLabel found) ≡ Ok made →
        (number : ℕ) × (found ≡ Some number) × (ToLabel number ≡ made)
    found_exit card None made so = absurd (cc)
    found_exit card (Some number) made so = (number, refl, cc)

    exit_below : (given : Exit PlacedLabel) (made : Exit ℕ) →
        exit_of labels given ≡ Ok made → list_all (is_below end) (targets_of_exit made) ≡ true
    exit_below Next made so =
        let same : Next ≡ made = cc in
        ap (λ e. list_all (is_below end) (targets_of_exit e)) (sym same)
    exit_below (ToLabel named) made so =
        let one = found_exit named.card (number_of labels named.label) made so in
        ap (λ e. list_all (is_below end) (targets_of_exit e)) (sym one.2)
        ∙ and_from (ltb one.0 end) true (found_below end labels named.label one.0 all one.1) refl
    exit_below Done made so =
        let same : Done ≡ made = cc in
        ap (λ e. list_all (is_below end) (targets_of_exit e)) (sym same)
    exit_below Fail made so =
        let same : Fail ≡ made = cc in
        ap (λ e. list_all (is_below end) (targets_of_exit e)) (sym same)

all_true : {A : Type 0} (xs : List A) → list_all (λ _. true) xs ≡ true
all_true [] = refl
all_true (x ∷ xs) = all_true xs

-- a statement that was made, and what it was made of
pub record Made (labels : List (Label × ℕ)) (written : DeckStatementParts)
    (made : Parts) : Type 0 where
  pub operations : List (Op ℕ)
  pub leaving : Exit ℕ
  pub operations_are : each_made (operation_of labels) written.operations ≡ Ok operations
  pub exit_is : exit_of labels written.exit ≡ Ok leaving
  pub whole : record {
    condition = written.condition;
    tests = map (λ (group : Placed Test). group.reading) written.tests;
    operations = operations;
    exit = leaving;
  } ≡ made

pub statement_made : (labels : List (Label × ℕ)) (written : DeckStatementParts) (made : Parts) →
    statement_of labels written ≡ Ok made → Made labels written made
statement_made labels written made so =
    let first = went_on (each_made (operation_of labels) written.operations) _ made so in
    let second = went_on (exit_of labels written.exit) _ made first.2 in
    record {
      operations = first.0;
      leaving = second.0;
      operations_are = first.1;
      exit_is = second.1;
      whole = cc (second.2);
    }

-- the statement passes no limit, and has its tests and its targets
abbrev is_good : ℕ → Parts → Bool
is_good end statement =
    fits statement && has_its_tests statement && list_all (is_below end) (targets_of statement)

statement_good : (end : ℕ) (labels : List (Label × ℕ)) →
    list_all (is_entry_below end) labels ≡ true →
    (written : DeckStatementParts) (made : Parts) → is_fit written ≡ true →
    statement_of labels written ≡ Ok made → is_good end made ≡ true
statement_good end labels all written made fit so =
    let m = statement_made labels written made so in
    let read = λ (group : Placed Test). group.reading in
    let tests = length-map written.tests read in
    let operations =
    each_made-length (operation_of labels) written.operations m.operations m.operations_are in
    let outer =
    and_parts
    (leb (length written.tests) most_tests && leb (length written.operations) most_operations)
    (may_have written.condition (length written.tests)) fit in
    let inner =
    and_parts (leb (length written.tests) most_tests)
    (leb (length written.operations) most_operations) outer.0 in
    let targets =
    all_made (operation_of labels) (λ _. true)
    (λ o. list_all (is_below end) (targets_of_operation o))
    (operation_below end labels all) written.operations m.operations (all_true written.operations)
    m.operations_are in
    ap (is_good end) (sym m.whole)
    ∙ and_from
    ((leb (length (map read written.tests)) most_tests && leb (length m.operations) most_operations)
    && may_have written.condition (length (map read written.tests)))
    (list_all (is_below end)
    (flat_map targets_of_operation m.operations ++ targets_of_exit m.leaving))
    (and_from
    (leb (length (map read written.tests)) most_tests && leb (length m.operations) most_operations)
    (may_have written.condition (length (map read written.tests)))
    (and_from (leb (length (map read written.tests)) most_tests)
    (leb (length m.operations) most_operations)
    (ap (λ n. leb n most_tests) tests ∙ inner.0) (ap (λ n. leb n most_operations) operations
    ∙ inner.1))
    (ap (may_have written.condition) tests ∙ outer.1))
    (list_all-append (is_below end) (flat_map targets_of_operation m.operations)
    (targets_of_exit m.leaving)
    ∙ and_from (list_all (is_below end) (flat_map targets_of_operation m.operations))
    (list_all (is_below end) (targets_of_exit m.leaving))
    (all_flat (is_below end) targets_of_operation m.operations targets)
    (exit_below end labels all written.exit m.leaving m.exit_is))

-- what follows a list is the last of both
slice_get_last : (front : List Parts) (last : Parts) →
    slice_get (front ++ last ∷ []) (length (front ++ last ∷ []) - 1) ≡ Some last
slice_get_last front last =
    let seam : length (front ++ last ∷ []) - 1 ≡ length front =
    omega (arith, length-append front (last ∷ [])) in
    let within : length front < length (front ++ last ∷ []) =
    omega (arith, length-append front (last ∷ [])) in
    ap (slice_get (front ++ last ∷ [])) seam
    ∙ slice_get-get_or (front ++ last ∷ []) (length front) last within
    ∙ ap Some (get_or-append_seam front last [] last)

-- each statement is good, and the one after them
pub each_good : (test : Parts → Bool) (made : List Parts) → list_all test made ≡ true →
    test plain_done ≡ true →
    list_all test (made ++ plain_done ∷ []) ≡ true
each_good test made all last =
    list_all-append test made (plain_done ∷ [])
    ∙ and_from (list_all test made) (list_all test (plain_done ∷ [])) all
    (and_from (test plain_done) true last refl)

-- one part of a test that all pass
all_left : {A : Type 0} (p q : A → Bool) (xs : List A) → list_all (λ x. p x && q x) xs ≡ true →
    (list_all p xs ≡ true) × (list_all q xs ≡ true)
all_left p q [] all = (refl, refl)
all_left p q (x ∷ xs) all =
    let outer = and_parts (p x && q x) (list_all (λ y. p y && q y) xs) all in
    let own = and_parts (p x) (q x) outer.0 in
    let others = all_left p q xs outer.1 in
    (and_from (p x) (list_all p xs) own.0 others.0, and_from (q x) (list_all q xs) own.1 others.1)

-- what the cards say, with numbers in place of labels and the plain DONE after it, is a program
pub program_of_made : (written : List DeckStatementParts) (labels : List (Label × ℕ))
    (statements : List Parts) →
    AreWithinLimits written → labels_of written ≡ Ok labels →
    statements_of labels written ≡ Ok statements →
    program_of statements ≡ Ok statements
program_of_made written labels statements limits labelled made =
    let first = went_on (each_made (statement_of labels) written) _ statements made in
    let front = first.0 in
    let whole : front ++ plain_done ∷ [] ≡ statements = cc (first.2) in
    let count = each_made-length (statement_of labels) written front first.1 in
    let end = length (front ++ plain_done ∷ []) in
    let ends : end ≡ length written + 1 =
    omega (arith, count, length-append front (plain_done ∷ [])) in
    let below = labels_after_below end written [] labels 0 refl (omega arith) labelled in
    let good =
    all_made (statement_of labels) is_fit (is_good end) (statement_good end labels below)
    written front limits.each first.1 in
    let parts =
    all_left (λ s. fits s && has_its_tests s) (λ s. list_all (is_below end) (targets_of s))
    front good in
    let own = all_left fits has_its_tests front parts.0 in
    let fitting = each_good fits front own.0 refl in
    let tested = each_good has_its_tests front own.1 refl in
    let targets = all_flat (is_below end) targets_of (front ++ plain_done ∷ [])
    (each_good (λ s. list_all (is_below end) (targets_of s)) front parts.1 refl) in
    let few = le-leb end most_statements (omega (arith, ends, limits.count)) in
    subst (λ (s : List Parts). program_of s ≡ Ok s) whole
    (Prim.rw (few, fitting, targets, tested, slice_get_last front plain_done) refl)

-- a statement of operations and an exit that were made
pub statement_from : (labels : List (Label × ℕ)) (written : DeckStatementParts)
    (operations : List (Op ℕ))
    (leaving : Exit ℕ) →
    each_made (operation_of labels) written.operations ≡ Ok operations →
    exit_of labels written.exit ≡ Ok leaving →
    statement_of labels written ≡ Ok (record {
      condition = written.condition;
      tests = map (λ (group : Placed Test). group.reading) written.tests;
      operations = operations;
      exit = leaving;
    })
statement_from labels written operations leaving made left =
    ap (λ r. and_then r
    (λ (o : List (Op ℕ)). and_then (exit_of labels written.exit) (λ (e : Exit ℕ). Ok (record {
      condition = written.condition;
      tests = map (λ (group : Placed Test). group.reading) written.tests;
      operations = o;
      exit = e;
    })))) made
    ∙ ap (λ r. and_then r (λ (e : Exit ℕ). Ok (record {
      condition = written.condition;
      tests = map (λ (group : Placed Test). group.reading) written.tests;
      operations = operations;
      exit = e;
    }))) left

-- statements of the same parts are the same
pub same_statement : (condition condition' : Cond) (tests tests' : List Test)
    (operations : List (Op ℕ)) (leaving : Exit ℕ) →
    condition ≡ condition' → tests ≡ tests' →
    ◌≡◌ {A = Parts} (record {
      condition = condition;
      tests = tests;
      operations = operations;
      exit =
          leaving;
    })
    (record { condition = condition'; tests = tests'; operations = operations; exit = leaving })
same_statement condition condition' tests tests' operations leaving same same' =
    ap (λ (k : Cond). record {
      condition = k;
      tests = tests;
      operations = operations;
      exit =
          leaving;
    }) same
    ∙ ap (λ (t : List Test). record {
      condition = condition';
      tests = t;
      operations =
          operations;
      exit = leaving;
    }) same'
