-- The words of a program are words, and not too many.
use Rattle.std.proofs.Common.{◌≡◌, ℕ, ◌+◌, ◌*◌, ◌^◌, ◌<◌, ◌≤◌, List, [], ◌∷◌, ◌++◌, length, Bool, true, refl, ap, sym, ◌∙◌, arith, length-append}
use Rattle.std.specs.List.{flat_map, list_all}
use Rattle.std.proofs.lemmas.Bool.{and_parts, lt-ltb, ltb-true}
use Rattle.std.proofs.lemmas.List.Folds.{list_all-append}
use Rattle.std.proofs.lemmas.List.Concat.{flat_map-cons}
use Rattle.l6_word.specs.Numerals.{word_bits}
use Rattle.l6_prog.specs.declared.condition.Test.{Test}
use Rattle.l6_prog.specs.declared.operation.Op.{Op}
use Rattle.l6_prog.specs.PrintText.{may_print}
use Rattle.l6_prog.specs.Statement.{Parts}
use Rattle.l6_prog.specs.Target.{is_below, targets_of}
use Rattle.l6_prog.specs.Program.{fits}
use Rattle.l6_prog.specs.Values.{has_values}
use Rattle.l6_image.specs.Bits.{item, six}
use Rattle.l6_image.specs.Numerals.{no_name}
use Rattle.l6_image.specs.Row.{Slot, absent, chain, number, text, Row, sixes, slot_words, row_head, row_words}
use Rattle.l6_image.proofs.RowValues.{is_slot, is_row}
use Rattle.l6_prog.specs.Chain.{is_name}
use Rattle.l6_word.specs.Word.{is_word}
use Rattle.l6_image.specs.Table.{row_of, row_of_test}
use Rattle.l6_image.specs.Image.{header, test_words, operation_words, words_in_statement, body, words_in, HasImage}
use Rattle.l6_image.specs.Version.{magic, most_in}
use Rattle.l6_image.specs.declared.version.Version.{Version}
use Rattle.l6_image.specs.declared.version.Version.TheVariants.{One, Two}
use Rattle.l6_image.proofs.Packing.{packed_below}
use Rattle.l6_image.proofs.Sixes.{each_name}
use Rattle.l6_image.proofs.Slots.{item_below, name_small, code_small, text_known, length_sixes}
use Rattle.l6_image.proofs.Found.{Known, head_fields, head_fit}
use Rattle.l6_image.proofs.Knowing.{Each, KnownStatement, known_program, known_parts, KnownOperation, known_test, known_operation, known_statement}
use Rattle.l6_image.proofs.Programs.{header_fields, header_fit, most_below}

-- these are words, and at most so many
pub record Fine (most : ℕ) (these : List ℕ) : Type 0 where
  pub words : list_all is_word these ≡ true
  pub count : length these ≤ most

is_word_below : (n : ℕ) → n < 2 ^ word_bits → is_word n ≡ true
is_word_below n below = lt-ltb n (2 ^ word_bits) below

fine_one : (word : ℕ) → word < 2 ^ word_bits → Fine 1 (word ∷ [])
fine_one word below =
    record { words = rw (is_word_below word below) refl; count = omega arith }

fine_append : (most more : ℕ) (xs ys : List ℕ) → Fine most xs → Fine more ys →
    Fine (most + more) (xs ++ ys)
fine_append most more xs ys one other =
    record {
      words = list_all-append is_word xs ys ∙ rw (one.words, other.words) refl;
      count = omega (arith, length-append xs ys, one.count, other.count);
    }

fine_cons : (most word : ℕ) (xs : List ℕ) → word < 2 ^ word_bits → Fine most xs →
    Fine (1 + most) (word ∷ xs)
fine_cons most word xs below fine = fine_append 1 most (word ∷ []) xs (fine_one word below) fine

fine_more : (most more : ℕ) (xs : List ℕ) → most ≤ more → Fine most xs → Fine more xs
fine_more most more xs less fine =
    record { words = fine.words; count = omega (arith, fine.count, less) }

fine_flat_map : {A : Type 0} (P : A → Type 0) (f : A → List ℕ) (most : ℕ) →
    ((x : A) → P x → Fine most (f x)) → (xs : List A) → Each P xs →
    Fine (length xs * most) (flat_map f xs)
fine_flat_map P f most fine [] each = record { words = refl; count = omega arith }
fine_flat_map P f most fine (x ∷ xs) each =
    let both = fine_append most (length xs * most) (f x) (flat_map f xs) (fine x each.0)
    (fine_flat_map P f most fine xs each.1) in
    record {
      words = ap (list_all is_word) (flat_map-cons f x xs) ∙ both.words;
      count = omega (arith, ap length (flat_map-cons f x xs), both.count);
    }

-- a word of six items is one
six_below : (p : ℕ → Bool) → ((n : ℕ) → p n ≡ true → n < 2 ^ 6) → (filling : ℕ) →
    filling < 2 ^ 6 → (items : List ℕ) → list_all p items ≡ true →
    six filling items < 2 ^ word_bits
six_below p small filling below items each =
    let fits = λ (place : ℕ). item_below p small filling below items place each in
    packed_below (item filling items 0 ∷ item filling items 1 ∷ item filling items 2
    ∷ item filling items 3 ∷ item filling items 4 ∷ item filling items 5 ∷ [])
    (fits 0, (fits 1, (fits 2, (fits 3, (fits 4, (fits 5, tt))))))

codes_below : (codes : List ℕ) → list_all may_print codes ≡ true → six 0 codes < 2 ^ word_bits
codes_below codes each = six_below may_print code_small 0 (omega arith) codes each

-- the words of codes are words
sixes_words : (codes : List ℕ) → list_all may_print codes ≡ true →
    list_all is_word (sixes codes) ≡ true
sixes_words [] each = refl
sixes_words (a ∷ []) each = (fine_one (six 0 (a ∷ [])) (codes_below (a ∷ []) each)).words
sixes_words (a ∷ b ∷ []) each =
    (fine_one (six 0 (a ∷ b ∷ [])) (codes_below (a ∷ b ∷ []) each)).words
sixes_words (a ∷ b ∷ c ∷ []) each =
    (fine_one (six 0 (a ∷ b ∷ c ∷ [])) (codes_below (a ∷ b ∷ c ∷ []) each)).words
sixes_words (a ∷ b ∷ c ∷ d ∷ []) each =
    (fine_one (six 0 (a ∷ b ∷ c ∷ d ∷ [])) (codes_below (a ∷ b ∷ c ∷ d ∷ []) each)).words
sixes_words (a ∷ b ∷ c ∷ d ∷ e ∷ []) each =
    (fine_one (six 0 (a ∷ b ∷ c ∷ d ∷ e ∷ [])) (codes_below (a ∷ b ∷ c ∷ d ∷ e ∷ []) each)).words
sixes_words (a ∷ b ∷ c ∷ d ∷ e ∷ f ∷ codes) each =
    let front : List ℕ = a ∷ b ∷ c ∷ d ∷ e ∷ f ∷ [] in
    let parts = and_parts (list_all may_print front) (list_all may_print codes)
    (sym (list_all-append may_print front codes) ∙ each) in
    rw (is_word_below (six 0 front) (codes_below front parts.0), sixes_words codes parts.1) refl

-- the most words that an operand, a row and a statement have
abbrev pub most_of_slot : ℕ
most_of_slot = 11

abbrev pub most_of_row : ℕ
most_of_row = 1 + (most_of_slot + most_of_slot + most_of_slot)

abbrev pub most_of_statement : ℕ
most_of_statement = 5000

fine_slot : (slot : Slot) → is_slot slot ≡ true → Fine most_of_slot (slot_words slot)
fine_slot absent known = record { words = refl; count = omega arith }
fine_slot (chain names) known =
    fine_more 1 most_of_slot (six no_name names ∷ []) (omega arith)
    (fine_one (six no_name names)
    (six_below is_name name_small no_name (omega arith) names (each_name names known)))
fine_slot (number n) known =
    fine_more 1 most_of_slot (n ∷ []) (omega arith)
    (fine_one n (ltb-true n (2 ^ word_bits) known))
fine_slot (text codes) known =
    let is = text_known codes known in
    fine_cons 10 (length codes) (sixes codes) (omega (arith, is.few))
    (record {
      words = sixes_words codes is.each;
      count = omega (arith, length_sixes codes, is.few);
    })

magic_words : (version : Version) → is_word (magic version) ≡ true
magic_words One = refl
magic_words Two = refl

module _ (version : Version) where
  fine-row : (row : Row) → Known version row → Fine most_of_row (row_words version row)
  fine-row row known =
      let a = slot_words row.first in
      let b = slot_words row.second in
      let c = slot_words row.third in
      fine_cons (most_of_slot + most_of_slot + most_of_slot) (row_head version row) (a ++ b ++ c)
      (packed_below (head_fields version row) (head_fit version row known))
      (fine_append (most_of_slot + most_of_slot) most_of_slot (a ++ b) c
      (fine_append most_of_slot most_of_slot a b (fine_slot row.first known.first)
      (fine_slot row.second known.second))
      (fine_slot row.third known.third))

  fine-test : (test : Test) → is_row (row_of_test test) ≡ true →
      Fine most_of_row (test_words version test)
  fine-test test known = fine-row (row_of_test test) (known_test version test known)

  fine-operation : (operation : Op ℕ) → KnownOperation version operation →
      Fine most_of_row (operation_words version operation)
  fine-operation operation known =
      fine-row (row_of operation) (known_operation version operation known.values known.targets)

  pub fine-statement : (s : Parts) → KnownStatement version s →
      Fine most_of_statement (words_in_statement version s)
  fine-statement s known =
      let parts = known_parts version s known in
      let tests = fine_flat_map (λ test. is_row (row_of_test test) ≡ true)
      (test_words version) most_of_row
      fine-test s.tests parts.tests in
      let operations = fine_flat_map (KnownOperation version)
      (operation_words version) most_of_row fine-operation
      s.operations parts.operations in
      let all = flat_map (test_words version) s.tests
      ++ flat_map (operation_words version) s.operations in
      fine_more (1 + (length s.tests * most_of_row + length s.operations * most_of_row))
      most_of_statement (header s ∷ all) (omega (arith, known.tests, known.operations))
      (fine_cons (length s.tests * most_of_row + length s.operations * most_of_row) (header s) all
      (packed_below (header_fields s) (header_fit version s known))
      (fine_append (length s.tests * most_of_row) (length s.operations * most_of_row)
      (flat_map (test_words version) s.tests)
      (flat_map (operation_words version) s.operations) tests operations))

  -- the magic word is a word
  magic-word : is_word (magic version) ≡ true
  magic-word = magic_words version

  -- the words of a program are words
  pub words_in-words : (program : List Parts) → HasImage version program →
      list_all is_word (words_in version program) ≡ true
  unfolding words_in
  words_in-words program has =
      let known = known_program version program has in
      let fine = fine_flat_map (KnownStatement version)
      (words_in_statement version) most_of_statement fine-statement
      program known.each in
      rw (
        magic-word,
        is_word_below (length program) (omega (arith, known.count, most_below version)),
        is_word_below (length (body version program))
            (omega (arith, known.count, fine.count, most_below version)),
        fine.words,
      ) refl

  -- so are those of a statement whose targets differ
  pub statement_words-words : (s : Parts) → fits s ≡ true → has_values s ≡ true →
      list_all (is_below (most_in version)) (targets_of s) ≡ true →
      list_all is_word (words_in_statement version s) ≡ true
  statement_words-words s fit values targets =
      (fine-statement s (known_statement version s fit values targets)).words
