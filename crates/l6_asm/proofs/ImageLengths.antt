-- The image of the program that a deck spells is no longer than an image may be.
use Rattle.std.proofs.Common.{◌≡◌, ℕ, ◌+◌, ◌*◌, ◌/◌, ◌%◌, ◌≤◌, zero, suc, List, [], ◌∷◌, ◌++◌, length, refl, ap, ◌∙◌, arith, length-append}
use Rattle.std.specs.Str.{byte}
use Rattle.std.proofs.lemmas.List.Concat.{flat_map-append}
use Rattle.l6_word.specs.Numerals.{octal_digit_count, word_octals}
use Rattle.l6_word.specs.Octal.{octal_digits, octal12}
use Rattle.l6_prog.specs.Numerals.{most_statements}
use Rattle.l6_prog.specs.Statement.{Parts, plain_done}
use Rattle.l6_image.specs.Image.{words_in_statement, body, words_in}
use Rattle.l6_image.specs.Text.{word_line, text_of_words, text_in}
use Rattle.l6_image.specs.Version.{most_in}
use Rattle.l6_image.specs.declared.version.Version.{Version}
use Rattle.l6_image.specs.declared.version.Version.TheVariants.{One, Two}
use Rattle.l6_card.specs.Spans.{all_spans}
use Rattle.l6_card.proofs.Spans.{groups_are_at_spans, spans_rise}
use Rattle.l6_asm.specs.Assembled.{Assembled}
use Rattle.l6_asm.specs.Labels.{labels_of}
use Rattle.l6_asm.specs.Laws.{ImagesOfDecksFit}
use Rattle.l6_asm.specs.Resolution.{each_made, statement_of, statements_of}
use Rattle.l6_asm.specs.Spells.{Spells}
use Rattle.l6_asm.proofs.Labels.{went_on}
use Rattle.l6_asm.proofs.StatementLengths.{rise_bytes, statements-few}

-- a number has as many digits as are asked for
pub digits_length : (places number : ℕ) → length (octal_digits places number) ≡ places
digits_length zero number = refl
digits_length (suc more) number =
    let front = octal_digits more (number / octal_digit_count) in
    let last = byte "0" + number % octal_digit_count in
    omega (
      arith,
      length-append front (last ∷ []),
      digits_length more (number / octal_digit_count),
    )

-- the line of a word has its digits and a line feed
line_length : (word : ℕ) → length (word_line word) ≡ word_octals + 1
unfolding octal12
line_length word =
    omega (arith, length-append (octal12 word) (byte "\n" ∷ []), digits_length word_octals word)

-- and the text of words as many lines as there are words
text_length : (words : List ℕ) →
    length (text_of_words words) ≡ (word_octals + 1) * length words
text_length [] = refl
text_length (word ∷ words) =
    omega (
      arith,
      length-append (word_line word) (text_of_words words),
      line_length word,
      text_length words,
    )

-- a program has three words before those of its statements
program_length : (version : Version) (program : List Parts) →
    length (words_in version program) ≡ length (body version program) + 3
unfolding words_in
program_length version program = omega arith

-- so the text of an image has a line for each word of the statements, and three more
pub image_length : (version : Version) (program : List Parts) →
    length (text_in version program) ≡ (word_octals + 1) * (length (body version program) + 3)
unfolding text_in
image_length version program =
    text_length (words_in version program)
    ∙ ap (λ n. (word_octals + 1) * n) (program_length version program)

-- in neither version a program has more statements than a program may have
most_in_version : (version : Version) → most_in version ≤ most_statements
most_in_version One = omega arith
most_in_version Two = omega arith

-- twice the words of the statements of a program are at most the bytes of its deck, and two for each
-- statement
pub body_few : (version : Version) (deck : List ℕ) (assembly : Assembled) → Spells deck assembly →
    2 * length (body version assembly.program) ≤ length deck + 2 * length assembly.program
body_few version deck assembly spells =
    let written = spells.written in
    let labelled = went_on (labels_of written) _ assembly spells.whole in
    let labels = labelled.0 in
    let stated = went_on (statements_of labels written) _ assembly labelled.2 in
    let made = went_on (each_made (statement_of labels) written) _ stated.0 stated.1 in
    let program : made.0 ++ plain_done ∷ [] ≡ assembly.program = cc (stated.2, made.2) in
    let few = statements-few version deck labels written made.0
    (groups_are_at_spans deck written spells.reads) made.1 in
    omega (
      arith,
      few,
      rise_bytes 0 (all_spans written) (length deck) (spans_rise deck written spells.reads),
      ap (λ (p : List Parts). length (body version p)) program,
      ap (λ (p : List Parts). length p) program,
      length-append made.0 (plain_done ∷ []),
      ap length (flat_map-append (words_in_statement version) made.0 (plain_done ∷ [])),
      length-append (body version made.0) (body version (plain_done ∷ [])),
    )

-- the words of an image are few enough
pub images_of_decks_fit : ImagesOfDecksFit
images_of_decks_fit deck image assembly fits spells (version, known, text) =
    omega (
      arith,
      ap length text,
      image_length version assembly.program,
      body_few version deck assembly spells,
      known.few,
      most_in_version version,
    )
