-- How long the lines of a deck's cards are.
use Rattle.std.proofs.Common.{◌≡◌, ℕ, zero, suc, ◌+◌, ◌*◌, ◌-◌, ◌^◌, ◌<◌, ◌≤◌, ◌==◌, Bool, true, false, if◌then◌else◌, List, [], ◌∷◌, ◌++◌, Option, None, Some, length, map, drop, slice_get, codes, decimal, refl, subst, sym, ap, ◌∙◌, arith, length-append}
use Rattle.std.specs.List.{flat_map, list_all, onto_first}
use Rattle.std.specs.Str.{byte}
use Rattle.std.proofs.lemmas.Fmt.{length-decimal-le}
use Rattle.std.proofs.lemmas.List.{length-map, length-replicate, length-take}
use Rattle.l6_word.specs.Lines.{lines_of, without_return}
use Rattle.l6_word.specs.Numerals.{word_octals}
use Rattle.l6_word.specs.Octal.{octal12}
use Rattle.l6_prog.specs.Statement.{Parts}
use Rattle.l6_image.specs.Image.{body, statement_words}
use Rattle.l6_image.specs.declared.version.Version.TheVariants.{Two}
use Rattle.l6_card.specs.Card.{columns_of}
use Rattle.l6_card.specs.Numerals.{card_width, most_deck_bytes}
use Rattle.l6_card.specs.Role.{role_of}
use Rattle.l6_card.specs.declared.role.Role.{Role}
use Rattle.l6_card.specs.declared.role.Role.TheVariants.{First, Further}
use Rattle.l6_asm.specs.Assembled.{Assembled}
use Rattle.l6_asm.specs.Listing.{blanks, card_line, cards_listed, goes_on, is_blank, is_last, number_in, number_on, shown, statement_lines, without_last_blanks, word_line, words_if_given}
use Rattle.l6_asm.specs.Numerals.{card_places, statement_places}
use Rattle.l6_asm.specs.Spells.{Spells}
use Rattle.l6_asm.proofs.ImageLengths.{body_few, digits_length}
use Rattle.l6_asm.proofs.StatementValues.{decks_have_images}

either_length : {A : Type 0} (one : Bool) (xs ys : List A) (most : ℕ) → length xs ≤ most →
    length ys ≤ most → length (if one then xs else ys) ≤ most
either_length true xs ys most first second = first
either_length false xs ys most first second = second

-- a text has at most as many lines as bytes
onto_length : (byte : ℕ) (lines : List (List ℕ)) →
    length (onto_first byte lines) ≤ length lines + 1
onto_length byte [] = omega arith
onto_length byte (line ∷ lines) = omega arith

lines_few : (text : List ℕ) → length (lines_of text) ≤ length text
lines_few [] = omega arith
lines_few (first ∷ rest) =
    either_length (first == byte "\n") ([] ∷ lines_of rest) (onto_first first (lines_of rest)) _
    (omega (arith, lines_few rest))
    (omega (arith, lines_few rest, onto_length first (lines_of rest)))

-- a line is no longer without the blanks at its end
without_length : (line : List ℕ) → length (without_last_blanks line) ≤ length line
without_length [] = omega arith
without_length (first ∷ rest) =
    either_length (list_all is_blank (first ∷ rest)) [] (first ∷ without_last_blanks rest) _
    (omega arith) (omega (arith, without_length rest))

-- a number has at most 20 digits
number_length : (places : ℕ) (number : Option ℕ) → places ≤ 20 →
    ((n : ℕ) → number ≡ Some n → n < 2 ^ 64) → length (number_in places number) ≤ 20
number_length places None narrow within = omega (arith, narrow, length-replicate places (byte " "))
number_length places (Some n) narrow within =
    let few : length (decimal n) ≤ 20 =
    length-decimal-le 20 n (omega arith) (omega (arith, within n refl)) (within n refl) in
    omega (
      arith,
      narrow,
      few,
      length-append (blanks (places - length (decimal n))) (decimal n),
      length-replicate (places - length (decimal n)) (byte " "),
    )

some_is : {n m : ℕ} → Some n ≡ Some m → n ≡ m
some_is same = cc same

-- the line of a card, by its numbers
line_length : (first second columns : List ℕ) → length first ≤ 20 → length second ≤ 20 →
    length columns ≤ 72 →
    length (without_last_blanks (first ++ blanks 1 ++ second ++ blanks 2 ++ map shown columns)
    ++ codes "\n") ≤ 116
line_length first second columns one other narrow =
    let line : List ℕ = first ++ blanks 1 ++ second ++ blanks 2 ++ map shown columns in
    omega (
      arith,
      one,
      other,
      narrow,
      length-append (without_last_blanks line) (codes "\n"),
      without_length line,
      length-append first (blanks 1),
      length-append (first ++ blanks 1) second,
      length-append (first ++ blanks 1 ++ second) (blanks 2),
      length-append (first ++ blanks 1 ++ second ++ blanks 2) (map shown columns),
      length-map columns shown,
    )

card_length : (card : ℕ) (statement : Option ℕ) (columns : List ℕ) → card < 2 ^ 64 →
    ((n : ℕ) → statement ≡ Some n → n < 2 ^ 64) → length columns ≤ 72 →
    length (card_line (Some card) statement columns) ≤ 116
card_length card statement columns little few narrow =
    line_length (number_in card_places (Some card)) (number_in statement_places statement) columns
    (number_length card_places (Some card) (omega arith)
    (λ n same. subst (λ k. k < 2 ^ 64) (some_is same) little))
    (number_length statement_places statement (omega arith) few) narrow

-- the line of a word
word_length : (word : ℕ) → length (word_line word) ≡ 28
unfolding octal12
word_length word =
    omega (
      arith,
      length-append (octal12 word) (byte "\n" ∷ []),
      digits_length word_octals word,
    )

words_length : (words : List ℕ) → length (flat_map word_line words) ≡ 28 * length words
words_length [] = refl
words_length (word ∷ words) =
    omega (
      arith,
      length-append (word_line word) (flat_map word_line words),
      word_length word,
      words_length words,
    )

drop_none : (count : ℕ) → drop {A = Parts} count [] ≡ []
drop_none zero = refl
drop_none (suc count) = refl

-- the words of the statements from one on are its own and those of the statements after it
body_from : (program : List Parts) (over : ℕ) →
    length (body Two (drop over program))
    ≡ length (words_if_given (slice_get program over)) + length (body Two (drop (over + 1) program))
body_from [] over =
    ap (λ ps. length (body Two ps)) (drop_none over)
    ∙ ap (λ ps. 0 + length (body Two ps)) (sym (drop_none (over + 1)))
body_from (statement ∷ program) zero =
    length-append (statement_words statement) (body Two program)
body_from (statement ∷ program) (suc over) =
    let next : suc (over + 1) ≡ suc over + 1 = omega arith in
    body_from program over
    ∙ ap (λ n. length (words_if_given (slice_get program over))
    + length (body Two (drop n (statement ∷ program)))) next

-- a first card shows the number of its statement, and no other card has one
number_shown : (role : Role) (over n : ℕ) → number_on role over ≡ Some n → over ≡ n
number_shown First over n same = some_is same
number_shown Further over n same = absurd (cc same)
number_shown _ over n same = absurd (cc same)

narrow : (line : List ℕ) → length (columns_of line) ≤ 72
unfolding card_width
narrow line = omega (arith, length-take card_width (without_return line))

-- each card has a line, and each word of the statements one
cards_length : (program : List Parts) (card over : ℕ) (lines : List (List ℕ)) →
    card + length lines < 2 ^ 64 → over ≤ card →
    length (cards_listed program card over lines)
    ≤ 116 * length lines + 28 * length (body Two (drop over program))
cards_length program card over [] little before = omega arith
cards_length program card over (line ∷ lines) little before =
    let shown : List ℕ =
    card_line (Some card) (number_on (role_of line) over) (columns_of line) in
    let words : List ℕ = statement_lines program over in
    let last : List ℕ = words ++ cards_listed program (card + 1) (over + 1) lines in
    let other : List ℕ = cards_listed program (card + 1) over lines in
    let is : Bool = is_last (role_of line) (goes_on lines) in
    let more : List ℕ = if is then last else other in
    let few : length more
    ≤ 116 * length lines + 28 * length (body Two (drop over program)) =
    either_length is last other _
    (omega (
      arith,
      length-append words (cards_listed program (card + 1) (over + 1) lines),
      words_length (words_if_given (slice_get program over)),
      body_from program over,
      cards_length program (card + 1) (over + 1) lines (omega (arith, little)) (omega (arith, before)),
    ))
    (cards_length program (card + 1) over lines (omega (arith, little)) (omega (arith, before))) in
    omega (
      arith,
      few,
      length-append shown more,
      card_length card (number_on (role_of line) over) (columns_of line) (omega (arith, little))
          (λ n same. omega (arith, little, before, number_shown (role_of line) over n same))
          (narrow line),
    )

-- the lines of the cards of a deck that is no longer than a deck may be can be counted
pub cards_counted : (deck : List ℕ) (assembly : Assembled) → length deck ≤ most_deck_bytes →
    Spells deck assembly →
    length (cards_listed assembly.program 1 0 (lines_of deck)) ≤ 2 ^ 32
cards_counted deck assembly fits spells =
    omega (
      arith,
      fits,
      lines_few deck,
      body_few Two deck assembly spells,
      (decks_have_images deck assembly spells).few,
      cards_length assembly.program 1 0 (lines_of deck) (omega (arith, fits, lines_few deck))
          (omega arith),
    )
