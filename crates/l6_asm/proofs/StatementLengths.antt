-- Statements have few words for the bytes of their groups.
use Rattle.std.proofs.Common.{◌≡◌, ℕ, ◌+◌, ◌*◌, ◌≤◌, List, [], ◌∷◌, ◌++◌, length, map, drop, Option, Ok, ap, sym, arith, length-append, length-take}
use Rattle.std.specs.List.{All, flat_map}
use Rattle.std.specs.Str.{byte}
use Rattle.std.proofs.lemmas.List.Elements.{All-head, All-tail}
use Rattle.l6_prog.specs.Statement.{Parts}
use Rattle.l6_prog.specs.declared.condition.Test.{Test}
use Rattle.l6_prog.specs.declared.operation.Op.{Op}
use Rattle.l6_image.specs.Image.{test_words, operation_words, words_in_statement, body}
use Rattle.l6_image.specs.declared.version.Version.{Version}
use Rattle.l6_group.specs.declared.label.Label.{Label}
use Rattle.l6_group.specs.Operation.{operation_of}
use Rattle.l6_group.specs.Test.{test_of}
use Rattle.l6_card.specs.declared.cards.Placed.{Placed}
use Rattle.l6_card.specs.declared.span.Span.{Span}
use Rattle.l6_card.specs.Laws.{IsSpelled, AreSpelled}
use Rattle.l6_card.specs.Spans.{spans_of, all_spans, Rise}
use Rattle.l6_card.specs.Statement.{DeckStatementParts}
use Rattle.l6_asm.specs.Resolution.{resolved, operation_of as made_operation, each_made, statement_of}
use Rattle.l6_asm.proofs.Makings.{both_made}
use Rattle.l6_asm.proofs.Programs.{found_operation, statement_made}
use Rattle.l6_asm.proofs.RowLengths.{operation_row_count, resolved_count, test_row_count}
use Rattle.l6_asm.proofs.GroupLengths.{operation_few, test_few}

-- how many bytes spans have together
abbrev pub bytes_in : List Span → ℕ
bytes_in [] = 0
bytes_in (span ∷ spans) = span.length + bytes_in spans

-- spans in a row have the bytes of both
bytes_in_append : (front following : List Span) →
    bytes_in (front ++ following) ≡ bytes_in front + bytes_in following
bytes_in_append [] following = omega arith
bytes_in_append (span ∷ front) following = omega (arith, bytes_in_append front following)

-- spans that rise have no more bytes than are between their ends
pub rise_bytes : (from : ℕ) (spans : List Span) (end : ℕ) → Rise from spans end →
    from + bytes_in spans ≤ end
rise_bytes from [] end rise = omega (arith, rise)
rise_bytes from (span ∷ spans) end rise =
    omega (arith, rise.0, rise_bytes (span.offset + span.length) spans end rise.1)

-- the columns of a group and its parentheses are within its span
group_columns : {A : Type 0} (read : List ℕ → Option A) (deck : List ℕ) (group : Placed A)
    (spelled : IsSpelled read deck group) → length spelled.columns + 2 ≤ group.span.length
group_columns read deck group spelled =
    omega (
      arith,
      ap length spelled.bytes,
      length-take group.span.length (drop group.span.offset deck),
      length-append spelled.columns (byte ")" ∷ []),
    )

module _ (version : Version) (deck : List ℕ) where
  -- twice the words of tests are at most the bytes of their groups
  tests-few : (tests : List (Placed Test)) → All (IsSpelled test_of deck) tests →
      2 * length (flat_map (test_words version) (map (λ (group : Placed Test). group.reading) tests))
      ≤ bytes_in (map (λ (test : Placed Test). test.span) tests)
  tests-few [] each = omega arith
  tests-few (test ∷ tests) each =
      let spelled = All-head (IsSpelled test_of deck) test tests each in
      let words = test_words version in
      let others = map (λ (group : Placed Test). group.reading) tests in
      omega (
        arith,
        length-append (words test.reading) (flat_map words others),
        test_row_count version test.reading,
        test_few spelled.columns test.reading spelled.reads,
        group_columns test_of deck test spelled,
        tests-few tests (All-tail (IsSpelled test_of deck) test tests each),
      )

  module _ (labels : List (Label × ℕ)) where
    -- and so are twice the words of operations, with numbers in place of their labels
    operation-bytes : (group : Placed (Op Label)) (made : Op ℕ) →
        IsSpelled operation_of deck group → made_operation labels group ≡ Ok made →
        2 * length (operation_words version made) ≤ group.span.length
    operation-bytes group made spelled so =
        let found = found_operation group.card (resolved labels group.reading) made so in
        omega (
          arith,
          operation_row_count version made,
          resolved_count labels group.reading made found,
          operation_few spelled.columns group.reading spelled.reads,
          group_columns operation_of deck group spelled,
        )

    operations-few : (groups : List (Placed (Op Label))) (made : List (Op ℕ)) →
        All (IsSpelled operation_of deck) groups →
        each_made (made_operation labels) groups ≡ Ok made →
        2 * length (flat_map (operation_words version) made)
        ≤ bytes_in (map (λ (operation : Placed (Op Label)). operation.span) groups)
    operations-few [] made each so =
        let none : [] ≡ made = cc in
        omega (arith, ap (λ os. length (flat_map (operation_words version) os)) (sym none))
    operations-few (group ∷ groups) made each so =
        let words = operation_words version in
        let parts = both_made (made_operation labels group) (each_made (made_operation labels) groups)
        made so in
        omega (
          arith,
          ap (λ os. length (flat_map words os)) parts.whole,
          length-append (words parts.first) (flat_map words parts.rest),
          operation-bytes group parts.first
              (All-head (IsSpelled operation_of deck) group groups each) parts.first_is,
          operations-few groups parts.rest
              (All-tail (IsSpelled operation_of deck) group groups each) parts.rest_is,
        )

    -- twice the words of a statement are at most the bytes of its groups, and two for its first word
    statement-few : (written : DeckStatementParts) (made : Parts) → AreSpelled deck written →
        statement_of labels written ≡ Ok made →
        2 * length (words_in_statement version made) ≤ bytes_in (spans_of written) + 2
    statement-few written made spelled so =
        let m = statement_made labels written made so in
        let tests = map (λ (group : Placed Test). group.reading) written.tests in
        omega (
          arith,
          ap (λ (s : Parts). length (words_in_statement version s)) m.whole,
          length-append (flat_map (test_words version) tests)
              (flat_map (operation_words version) m.operations),
          tests-few written.tests spelled.tests,
          operations-few written.operations m.operations spelled.operations m.operations_are,
          bytes_in_append (map (λ (test : Placed Test). test.span) written.tests)
              (map (λ (operation : Placed (Op Label)). operation.span) written.operations),
        )

    -- and twice those of statements are at most the bytes of all groups, and two for each of them
    pub statements-few : (written : List DeckStatementParts) (made : List Parts) →
        All (AreSpelled deck) written → each_made (statement_of labels) written ≡ Ok made →
        2 * length (body version made) ≤ bytes_in (all_spans written) + 2 * length made
    statements-few [] made each so =
        let none : [] ≡ made = cc in
        omega (arith, ap (λ s. length (body version s)) (sym none))
    statements-few (one ∷ written) made each so =
        let words = words_in_statement version in
        let parts = both_made (statement_of labels one) (each_made (statement_of labels) written) made
        so in
        omega (
          arith,
          ap (λ s. length (body version s)) parts.whole,
          ap length parts.whole,
          length-append (words parts.first) (body version parts.rest),
          statement-few one parts.first (All-head (AreSpelled deck) one written each) parts.first_is,
          statements-few written parts.rest (All-tail (AreSpelled deck) one written each)
              parts.rest_is,
          bytes_in_append (spans_of one) (all_spans written),
        )
