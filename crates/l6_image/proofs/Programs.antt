-- Programs are found again in their words.
use Rattle.std.proofs.Common.{◌≡◌, ℕ, ◌/◌, ◌%◌, ◌^◌, ◌<◌, suc, List, [], ◌∷◌, ◌++◌, length, get_or, true, Option, Some, refl, ap, sym, ◌∙◌, arith, append_assoc, append-nil}
use Rattle.std.specs.Prelude.{unwrap_or}
use Rattle.std.specs.List.{flat_map}
use Rattle.std.proofs.lemmas.Bool.{le-ltb}
use Rattle.std.proofs.lemmas.List.Concat.{flat_map-cons}
use Rattle.l6_prog.specs.declared.condition.Cond.{Cond}
use Rattle.l6_prog.specs.declared.condition.Cond.TheVariants.{Always, If, Not, IfAll, IfAny, IfNone, IfNotAll}
use Rattle.l6_prog.specs.declared.condition.Test.{Test}
use Rattle.l6_prog.specs.declared.operation.Op.{Op}
use Rattle.l6_prog.specs.declared.exit.Exit.{Exit}
use Rattle.l6_prog.specs.declared.exit.Exit.TheVariants.{Next, Label, Done, Fail}
use Rattle.l6_prog.proofs.Programs.{taken}
use Rattle.l6_prog.specs.Statement.{Parts}
use Rattle.l6_prog.specs.Target.{targets_of_operation}
use Rattle.l6_image.specs.Bits.{BitField, bits}
use Rattle.l6_image.specs.Version.{magic, most_in}
use Rattle.l6_image.specs.declared.version.Version.{Version}
use Rattle.l6_image.specs.declared.version.Version.TheVariants.{One, Two}
use Rattle.l6_image.proofs.RowValues.{is_row}
use Rattle.l6_image.specs.Table.{row_of, row_of_test}
use Rattle.l6_image.specs.Image.{condition_code, exit_code, exit_target, header, test_words, operation_words, words_in_statement, body, words_in, HasImage}
use Rattle.l6_image.specs.inner.decode.Fields.{target_in, version_of}
use Rattle.l6_image.specs.inner.decode.Statements.{many, item_at, test_at, operation_at, condition_in, exit_in, statement_at, statements_of}
use Rattle.l6_image.specs.inner.decode.Loading.{program_in}
use Rattle.l6_image.proofs.Packing.{AllFit, unpacked, unpacked_packed, values}
use Rattle.l6_image.proofs.Found.{row_again, test_again, operation_again}
use Rattle.l6_image.proofs.Knowing.{Each, below_more, KnownStatement, KnownProgram, known_program, known_parts, KnownOperation, known_test, known_operation}

-- one is found again in its words, and what follows them
abbrev pub Again : {A : Type 0} → (A → List ℕ) → (List ℕ → Option (A × List ℕ)) → A → Type 0
Again spell at x = (rest : List ℕ) → at (spell x ++ rest) ≡ Some (x, rest)

each_again : {A : Type 0} (spell : A → List ℕ) (at : List ℕ → Option (A × List ℕ))
    (P : A → Type 0) → ((x : A) → P x → Again spell at x) → (xs : List A) → Each P xs →
    (rest : List ℕ) → many at (length xs) (flat_map spell xs ++ rest) ≡ Some (xs, rest)
each_again spell at P again [] each rest = refl
each_again spell at P again (x ∷ xs) each rest =
    let words : flat_map spell (x ∷ xs) ++ rest ≡ spell x ++ (flat_map spell xs ++ rest) =
    ap (λ ws. ws ++ rest) (flat_map-cons spell x xs)
    ∙ append_assoc (spell x) (flat_map spell xs) rest in
    ap (many at (suc (length xs))) words
    ∙ rw (
      again x each.0 (flat_map spell xs ++ rest),
      each_again spell at P again xs each.1 rest,
    ) refl

-- condition and exit
condition_again : (condition : Cond) → condition_in (condition_code condition) ≡ condition
condition_again Always = refl
condition_again If = refl
condition_again Not = refl
condition_again IfAll = refl
condition_again IfAny = refl
condition_again IfNone = refl
condition_again IfNotAll = refl

exit_again : (leaving : Exit ℕ) →
    exit_in (exit_code leaving) (unwrap_or (exit_target leaving) 0) ≡ leaving
exit_again Next = refl
exit_again (Label target) = refl
exit_again Done = refl
exit_again Fail = refl

condition_below : (condition : Cond) → condition_code condition < 2 ^ 3
condition_below Always = omega arith
condition_below If = omega arith
condition_below Not = omega arith
condition_below IfAll = omega arith
condition_below IfAny = omega arith
condition_below IfNone = omega arith
condition_below IfNotAll = omega arith

exit_below : (leaving : Exit ℕ) → exit_code leaving < 2 ^ 3
exit_below Next = omega arith
exit_below (Label target) = omega arith
exit_below Done = omega arith
exit_below Fail = omega arith

-- the fields of a header, which have room for what they hold
abbrev pub header_fields : Parts → List BitField
header_fields s =
    bits 3 (condition_code s.condition) ∷ bits 6 (length s.tests)
    ∷ bits 6 (length s.operations) ∷ bits 3 (exit_code s.exit)
    ∷ bits 18 (unwrap_or (exit_target s.exit) 0) ∷ []

-- a number of statements of either version has sixteen bits
pub most_below : (version : Version) → most_in version < 2 ^ 16
most_below One = omega arith
most_below Two = omega arith

module _ (version : Version) where
  -- a test, and an operation
  test_at-again : (test : Test) → is_row (row_of_test test) ≡ true →
      Again (test_words version) (test_at version) test
  unfolding item_at
  test_at-again test known rest =
      rw (
        row_again version (row_of_test test) rest
            (known_test version test known),
        test_again test known,
      ) refl

  operation_at-again : (operation : Op ℕ) → KnownOperation version operation →
      Again (operation_words version) (operation_at version) operation
  unfolding item_at
  operation_at-again operation known rest =
      rw (
        row_again version (row_of operation) rest
            (known_operation version operation known.values known.targets),
        operation_again operation known.values
            (below_more (most_in version) (2 ^ 16) (targets_of_operation operation)
            (omega (arith, most_below version))
            known.targets),
      ) refl

  pub header_fit : (s : Parts) → KnownStatement version s → AllFit (header_fields s)
  header_fit s known = (
    condition_below s.condition,
    (
      omega (arith, known.tests),
      (
        omega (arith, known.operations),
        (
          exit_below s.exit,
          (omega (arith, (known_parts version s known).target, most_below version), tt),
        ),
      ),
    ),
  )

  -- a statement is found again in words that begin with one that has its header's fields
  statement_at-found : (s : Parts) (head : ℕ) (rest : List ℕ) → KnownStatement version s →
      unpacked (3 ∷ 6 ∷ 6 ∷ 3 ∷ 18 ∷ []) head ≡ values (header_fields s) →
      statement_at version (head ∷ flat_map (test_words version) s.tests
      ++ (flat_map (operation_words version) s.operations ++ rest)) ≡ Some (s, rest)
  unfolding statement_at
  statement_at-found s head rest known is =
      let at = λ (place : ℕ). ap (λ (xs : List ℕ). get_or xs place 0) is in
      let parts = known_parts version s known in
      let condition : head / 2 ^ 33 % 8 ≡ condition_code s.condition = at 0 in
      let tests : head / 2 ^ 27 % 64 ≡ length s.tests = at 1 in
      let operations : head / 2 ^ 21 % 64 ≡ length s.operations = at 2 in
      let leaving : head / 2 ^ 18 % 8 ≡ exit_code s.exit = at 3 in
      let whole : head ≡ head / 1 = omega arith in
      let last : head % 2 ^ 18 ≡ unwrap_or (exit_target s.exit) 0 =
      ap (λ n. n % 2 ^ 18) whole ∙ at 4 in
      let target : target_in head ≡ unwrap_or (exit_target s.exit) 0 =
      omega (arith, last, parts.target, most_below version) in
      rw (
        tests,
        each_again (test_words version) (test_at version) (λ test. is_row (row_of_test test) ≡ true)
            test_at-again s.tests parts.tests (flat_map (operation_words version) s.operations ++ rest),
        operations,
        each_again (operation_words version) (operation_at version)
            (KnownOperation version) operation_at-again
            s.operations parts.operations rest,
        condition,
        condition_again s.condition,
        leaving,
        target,
        exit_again s.exit,
      ) refl

  statement_at-again : (s : Parts) → KnownStatement version s →
      Again (words_in_statement version) (statement_at version) s
  statement_at-again s known rest =
      ap (λ ws. statement_at version (header s ∷ ws))
      (append_assoc (flat_map (test_words version) s.tests)
      (flat_map (operation_words version) s.operations) rest)
      ∙ statement_at-found s (header s) rest known
      (unpacked_packed (header_fields s) (header_fit s known))

  -- a program is found again in its words
  statements_of-again : (program : List Parts) → KnownProgram version program →
      statements_of version (length program ∷ length (body version program) ∷ body version program)
      ≡ Some program
  unfolding statements_of
  statements_of-again program known =
      let words : body version program ≡ body version program ++ [] =
      sym (append-nil (body version program)) in
      ap (λ ws. statements_of version (length program ∷ length (body version program) ∷ ws)) words
      ∙ rw (each_again (words_in_statement version) (statement_at version) (KnownStatement version)
      statement_at-again program known.each []) refl

-- the version is found again in its magic word
version_of_again : (version : Version) → version_of (magic version) ≡ Some version
version_of_again One = refl
version_of_again Two = refl

pub program_in_again : (version : Version) (program : List Parts) → HasImage version program →
    program_in (words_in version program) ≡ Some (version, program)
unfolding words_in program_in
program_in_again version program has =
    rw (
      version_of_again version,
      statements_of-again version program (known_program version program has),
      taken program has.is,
      le-ltb (most_in version) (length program) has.few,
    ) refl
