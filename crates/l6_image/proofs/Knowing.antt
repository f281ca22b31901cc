-- What is known of a program is known of its statements, tests and operations.
use Rattle.std.proofs.Common.{◌≡◌, ℕ, ◌^◌, ◌<◌, ◌≤◌, List, [], ◌∷◌, length, Bool, true, Option, Some, None, refl, sym, ◌∙◌, arith}
use Rattle.std.specs.Prelude.{nat_le, unwrap_or, option_to_list}
use Rattle.std.specs.List.{flat_map, list_all}
use Rattle.std.proofs.lemmas.Bool.{and_parts, ltb-true, lt-ltb, leb-true}
use Rattle.std.proofs.lemmas.List.Folds.{list_all-append}
use Rattle.l6_prog.specs.declared.condition.Test.{Test}
use Rattle.l6_prog.specs.declared.condition.Comparison.{Comparison}
use Rattle.l6_prog.specs.declared.condition.Comparison.TheVariants.{Equal, NotEqual, Greater, Less, AllOnes, AllZeros}
use Rattle.l6_prog.specs.declared.operation.Op.{Op}
use Rattle.l6_prog.specs.declared.operation.Op.TheVariants.{Get, Duplicate, Call, Input, Set, Add, Subtract, Multiply, Divide, Remainder, And, Or, ExclusiveOr, Complement, ShiftLeft, ShiftRight, Exchange, Define, SaveContent, RestoreContent, SaveDefinition, RestoreDefinition, Free, PrintCharacters, PrintDecimal, PrintOctal, PrintText, PrintLine}
use Rattle.l6_prog.specs.declared.exit.Exit.{Exit}
use Rattle.l6_prog.specs.declared.exit.Exit.TheVariants.{Next, Label, Done, Fail}
use Rattle.l6_prog.specs.Numerals.{most_statements, most_tests, most_operations}
use Rattle.l6_prog.specs.Statement.{Parts}
use Rattle.l6_prog.specs.Target.{is_below, targets_of, targets_of_operation, targets_of_exit}
use Rattle.l6_prog.specs.Program.{fits}
use Rattle.l6_prog.specs.Values.{is_test, is_operation, has_values}
use Rattle.l6_word.specs.Numerals.{word_bits}
use Rattle.l6_prog.proofs.Targets.{all_of_pieces}
use Rattle.l6_image.proofs.RowValues.{is_row, test_row, operation_row}
use Rattle.l6_image.specs.Table.{code_of_comparison, row_of, row_of_test}
use Rattle.l6_image.specs.Image.{exit_target, HasImage}
use Rattle.l6_image.specs.Version.{most_in}
use Rattle.l6_image.specs.declared.version.Version.{Version}
use Rattle.l6_image.specs.declared.version.Version.TheVariants.{One, Two}
use Rattle.l6_image.proofs.Found.{Known, known_row}

-- so it is with each of a list
abbrev pub Each : {A : Type 0} → (A → Type 0) → List A → Type 0
Each P [] = Unit {0}
Each P (x ∷ xs) = P x × Each P xs

-- what each passes that passes a test
pub each_of : {A : Type 0} (p : A → Bool) (P : A → Type 0) → ((x : A) → p x ≡ true → P x) →
    (xs : List A) → list_all p xs ≡ true → Each P xs
each_of p P passes [] each = tt
each_of p P passes (x ∷ xs) each =
    let parts = and_parts (p x) (list_all p xs) each in
    (passes x parts.0, each_of p P passes xs parts.1)

-- targets below an end are below a later one
pub below_more : (end later : ℕ) (targets : List ℕ) → end ≤ later →
    list_all (is_below end) targets ≡ true → list_all (is_below later) targets ≡ true
below_more end later [] more each = refl
below_more end later (target ∷ targets) more each =
    let parts = and_parts (is_below end target) (list_all (is_below end) targets) each in
    let below : target < later = omega (arith, ltb-true target end parts.0, more) in
    rw (lt-ltb target later below, below_more end later targets more parts.1) refl

-- a program of each version may have a statement
some_most : (version : Version) → 0 < most_in version
some_most One = omega arith
some_most Two = omega arith

most_word : (version : Version) → most_in version < 2 ^ word_bits
most_word One = omega arith
most_word Two = omega arith

module _ (version : Version) where
  -- what is known of a statement of a program
  pub record KnownStatement (s : Parts) : Type 0 where
    pub tests : length s.tests ≤ most_tests
    pub operations : length s.operations ≤ most_operations
    pub values : has_values s ≡ true
    pub targets : list_all (is_below (most_in version)) (targets_of s) ≡ true

  pub known_statement : (s : Parts) → fits s ≡ true → has_values s ≡ true →
      list_all (is_below (most_in version)) (targets_of s) ≡ true → KnownStatement s
  known_statement s fit values targets =
      let tests = nat_le (length s.tests) most_tests in
      let operations = nat_le (length s.operations) most_operations in
      let parts = and_parts tests operations fit in
      record {
        tests = leb-true (length s.tests) most_tests parts.0;
        operations = leb-true (length s.operations) most_operations parts.1;
        values = values;
        targets = targets;
      }

  known_statements : (program : List Parts) → list_all fits program ≡ true →
      list_all has_values program ≡ true →
      list_all (λ s. list_all (is_below (most_in version)) (targets_of s)) program ≡ true →
      Each KnownStatement program
  known_statements [] fit values targets = tt
  known_statements (s ∷ program) fit values targets =
      let below = λ (s : Parts). list_all (is_below (most_in version)) (targets_of s) in
      let a = and_parts (fits s) (list_all fits program) fit in
      let b = and_parts (has_values s) (list_all has_values program) values in
      let c = and_parts (below s) (list_all below program) targets in
      (known_statement s a.0 b.0 c.0, known_statements program a.1 b.1 c.1)

  -- what is known of a program
  pub record KnownProgram (program : List Parts) : Type 0 where
    pub count : length program ≤ most_in version
    pub each : Each KnownStatement program

  pub known_program : (program : List Parts) → HasImage version program → KnownProgram program
  known_program program has =
      let is = has.is in
      let few = nat_le (length program) most_statements in
      let parts = and_parts few (list_all fits program) is.limits in
      let below : list_all (is_below (most_in version)) (flat_map targets_of program) ≡ true =
      below_more (length program) (most_in version) (flat_map targets_of program)
      has.few is.targets in
      record {
        count = has.few;
        each = known_statements program parts.1 is.values
            (sym (all_of_pieces (is_below (most_in version)) targets_of program) ∙ below);
      }

  -- a label is below an end, or there is none
  label_below : (label : Option ℕ) →
      list_all (is_below (most_in version)) (option_to_list label) ≡ true →
      unwrap_or label 0 < (most_in version)
  label_below None each = some_most version
  label_below (Some label) each =
      ltb-true label (most_in version) (and_parts (is_below (most_in version) label) true each).0

  -- the code of a test has six bits
  code-below : (comparison : Comparison) → code_of_comparison comparison < 2 ^ 6
  code-below Equal = omega arith
  code-below NotEqual = omega arith
  code-below Greater = omega arith
  code-below Less = omega arith
  code-below AllOnes = omega arith
  code-below AllZeros = omega arith

  -- the row of a test is known
  pub known_test : (test : Test) → is_row (row_of_test test) ≡ true → Known version (row_of_test test)
  known_test test known =
      known_row version (row_of_test test) (code-below test.comparison) (some_most version) known

  -- so is that of an operation
  pub known_operation : (operation : Op ℕ) → is_row (row_of operation) ≡ true →
      list_all (is_below (most_in version)) (targets_of_operation operation) ≡ true →
      Known version (row_of operation)
  known_operation (Set c v) known _ =
      known_row version (row_of (Set c v)) (omega arith) (some_most version) known
  known_operation (Add c v) known _ =
      known_row version (row_of (Add c v)) (omega arith) (some_most version) known
  known_operation (Subtract c v) known _ =
      known_row version (row_of (Subtract c v)) (omega arith) (some_most version) known
  known_operation (Multiply c v) known _ =
      known_row version (row_of (Multiply c v)) (omega arith) (some_most version) known
  known_operation (Divide c v) known _ =
      known_row version (row_of (Divide c v)) (omega arith) (some_most version) known
  known_operation (Remainder c v) known _ =
      known_row version (row_of (Remainder c v)) (omega arith) (some_most version) known
  known_operation (And c v) known _ =
      known_row version (row_of (And c v)) (omega arith) (some_most version) known
  known_operation (Or c v) known _ =
      known_row version (row_of (Or c v)) (omega arith) (some_most version) known
  known_operation (ExclusiveOr c v) known _ =
      known_row version (row_of (ExclusiveOr c v)) (omega arith) (some_most version) known
  known_operation (Complement c v) known _ =
      known_row version (row_of (Complement c v)) (omega arith) (some_most version) known
  known_operation (ShiftLeft c v) known _ =
      known_row version (row_of (ShiftLeft c v)) (omega arith) (some_most version) known
  known_operation (ShiftRight c v) known _ =
      known_row version (row_of (ShiftRight c v)) (omega arith) (some_most version) known
  known_operation (Exchange c d) known _ =
      known_row version (row_of (Exchange c d)) (omega arith) (some_most version) known
  known_operation (Define f w a z) known _ =
      known_row version (row_of (Define f w a z)) (omega arith) (some_most version) known
  known_operation (SaveContent c) known _ =
      known_row version (row_of (SaveContent c)) (omega arith) (some_most version) known
  known_operation (RestoreContent c) known _ =
      known_row version (row_of (RestoreContent c)) (omega arith) (some_most version) known
  known_operation (SaveDefinition f) known _ =
      known_row version (row_of (SaveDefinition f)) (omega arith) (some_most version) known
  known_operation (RestoreDefinition f) known _ =
      known_row version (row_of (RestoreDefinition f)) (omega arith) (some_most version) known
  known_operation (Get c v d label) known below =
      known_row version (row_of (Get c v d label)) (omega arith) (label_below label below) known
  known_operation (Duplicate c v label) known below =
      known_row version (row_of (Duplicate c v label)) (omega arith) (label_below label below) known
  known_operation (Free c v) known _ =
      known_row version (row_of (Free c v)) (omega arith) (some_most version) known
  known_operation (Call called fail) known below =
      let others = (and_parts (is_below (most_in version) called)
      (list_all (is_below (most_in version)) (option_to_list fail)) below).1 in
      known_row version (row_of (Call called fail)) (omega arith) (label_below fail others) known
  known_operation (Input c v label) known below =
      known_row version (row_of (Input c v label)) (omega arith) (label_below label below) known
  known_operation (PrintCharacters c v) known _ =
      known_row version (row_of (PrintCharacters c v)) (omega arith) (some_most version) known
  known_operation (PrintDecimal c) known _ =
      known_row version (row_of (PrintDecimal c)) (omega arith) (some_most version) known
  known_operation (PrintOctal c) known _ =
      known_row version (row_of (PrintOctal c)) (omega arith) (some_most version) known
  known_operation (PrintText codes) known _ =
      known_row version (row_of (PrintText codes)) (omega arith) (some_most version) known
  known_operation PrintLine known _ =
      known_row version (row_of PrintLine) (omega arith) (some_most version) known

  -- what is known of an operation of a program
  pub record KnownOperation (operation : Op ℕ) : Type 0 where
    pub values : is_row (row_of operation) ≡ true
    pub targets : list_all (is_below (most_in version)) (targets_of_operation operation) ≡ true

  known_operations : (operations : List (Op ℕ)) →
      list_all is_operation operations ≡ true →
      list_all (λ o. list_all (is_below (most_in version)) (targets_of_operation o)) operations ≡ true →
      Each KnownOperation operations
  known_operations [] values targets = tt
  known_operations (operation ∷ operations) values targets =
      let q = λ (o : Op ℕ). list_all (is_below (most_in version)) (targets_of_operation o) in
      let a = and_parts (is_operation operation) (list_all is_operation operations) values in
      let b = and_parts (q operation) (list_all q operations) targets in (
        record {
          values = operation_row (most_in version) operation (most_word version) a.0 b.0;
          targets = b.0;
        },
        known_operations operations a.1 b.1,
      )

  -- what is known of the parts of a statement
  pub record KnownParts (s : Parts) : Type 0 where
    pub tests : Each (λ test. is_row (row_of_test test) ≡ true) s.tests
    pub operations : Each KnownOperation s.operations
    pub target : unwrap_or (exit_target s.exit) 0 < (most_in version)

  exit_below : (leaving : Exit ℕ) →
      list_all (is_below (most_in version)) (targets_of_exit leaving) ≡ true →
      unwrap_or (exit_target leaving) 0 < (most_in version)
  exit_below Next each = some_most version
  exit_below (Label target) each =
      ltb-true target (most_in version) (and_parts (is_below (most_in version) target) true each).0
  exit_below Done each = some_most version
  exit_below Fail each = some_most version

  pub known_parts : (s : Parts) → KnownStatement s → KnownParts s
  known_parts s known =
      let below = is_below (most_in version) in
      let called = flat_map targets_of_operation s.operations in
      let a = and_parts (list_all is_test s.tests) (list_all is_operation s.operations) known.values in
      let b = and_parts (list_all below called) (list_all below (targets_of_exit s.exit))
      (sym (list_all-append below called (targets_of_exit s.exit)) ∙ known.targets) in
      record {
        tests = each_of is_test (λ test. is_row (row_of_test test) ≡ true) test_row s.tests a.0;
        operations = known_operations s.operations a.1
            (sym (all_of_pieces below targets_of_operation s.operations) ∙ b.0);
        target = exit_below s.exit b.1;
      }
