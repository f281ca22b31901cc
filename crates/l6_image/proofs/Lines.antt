-- The lines of words, and texts that begin with one.
use Rattle.std.proofs.Common.{◌≡◌, ℕ, ◌+◌, ◌<◌, ◌^◌, List, [], ◌∷◌, ◌++◌, length, get_or, take, Bool, true, false, eqb, Some, None, refl, ap, sym, ◌∙◌, arith, append_assoc, append-nil, length-append}
use Rattle.std.specs.Prelude.{◌&&◌, nat_le}
use Rattle.std.specs.List.{list_all, onto_first}
use Rattle.std.specs.Str.{byte}
use Rattle.std.proofs.lemmas.Bool.{and_parts, eqb-true, ltb-true, lt-ltb, le-leb, both_ways, false_from_ne_true}
use Rattle.std.proofs.lemmas.List.{take-append-le, get_or_append_left}
use Rattle.std.proofs.lemmas.Grind.{flat_map-append}
use Rattle.std.proofs.lemmas.List.Folds.{list_all-append}
use Rattle.std.proofs.lemmas.List.Concat.{flat_map-cons}
use Rattle.std.proofs.Math.Seq.{take-append_seam, get_or-append_seam}
use Rattle.l6_word.specs.Numerals.{word_bits, word_octals}
use Rattle.l6_word.specs.Octal.{octal12, is_octal12, is_octal_digit}
use Rattle.l6_word.proofs.Octals.{octals_are_read_again}
use Rattle.l6_word.specs.Word.{is_word}
use Rattle.l6_image.specs.Text.{word_line, text_of_words, whole_lines, is_word_line, first_other}
use Rattle.l6_image.specs.inner.Lines.{begins_with_word}

-- octal digits are no line feeds
digit_goes_on : (digit : ℕ) → is_octal_digit digit ≡ true → eqb digit (byte "\n") ≡ false
digit_goes_on digit is =
    false_from_ne_true (eqb digit (byte "\n"))
    (λ feed. both_ways false refl
    (ap is_octal_digit (sym (eqb-true digit (byte "\n") feed)) ∙ is))

-- digits and a line feed are a line
whole_lines_digits : (digits rest : List ℕ) → list_all is_octal_digit digits ≡ true →
    whole_lines (digits ++ byte "\n" ∷ rest) ≡ (digits ++ byte "\n" ∷ []) ∷ whole_lines rest
whole_lines_digits [] rest each = refl
whole_lines_digits (digit ∷ digits) rest each =
    let parts = and_parts (is_octal_digit digit) (list_all is_octal_digit digits) each in
    rw (digit_goes_on digit parts.0)
    (ap (onto_first digit) (whole_lines_digits digits rest parts.1))

-- a word's line is one
word_line_is : (digits : List ℕ) → is_octal12 digits ≡ true →
    is_word_line (digits ++ byte "\n" ∷ []) ≡ true
word_line_is digits is =
    let parts = and_parts (eqb (length digits) word_octals) (list_all is_octal_digit digits) is in
    let twelve : length digits ≡ word_octals = eqb-true (length digits) word_octals parts.0 in
    let line : List ℕ = digits ++ byte "\n" ∷ [] in
    let whole : length line ≡ word_octals + 1 =
    length-append digits (byte "\n" ∷ []) ∙ omega (arith, twelve) in
    let last : get_or line word_octals 0 ≡ byte "\n" =
    ap (λ n. get_or line n 0) (sym twelve) ∙ get_or-append_seam digits (byte "\n") [] 0 in
    let front : take word_octals line ≡ digits =
    ap (λ n. take n line) (sym twelve) ∙ take-append_seam digits (byte "\n" ∷ []) in
    rw (whole, last, front, is) refl

-- one line of a word more
pub first_other_more : (number word : ℕ) (rest : List ℕ) → word < 2 ^ word_bits →
    first_other number (whole_lines (word_line word ++ rest))
    ≡ first_other (number + 1) (whole_lines rest)
first_other_more number word rest fits =
    let digits : List ℕ = octal12 word in
    let is = (octals_are_read_again word fits).0 in
    let each = (and_parts (eqb (length digits) word_octals) (list_all is_octal_digit digits) is).1 in
    let lines : whole_lines (word_line word ++ rest) ≡ word_line word ∷ whole_lines rest =
    ap whole_lines (append_assoc digits (byte "\n" ∷ []) rest)
    ∙ whole_lines_digits digits rest each in
    ap (first_other number) lines ∙ rw (word_line_is digits is) refl

-- there are only lines of words
pub first_other_none : (words : List ℕ) (number : ℕ) → list_all is_word words ≡ true →
    first_other number (whole_lines (text_of_words words)) ≡ None
first_other_none [] number each = refl
first_other_none (word ∷ words) number each =
    let parts = and_parts (is_word word) (list_all is_word words) each in
    ap (λ text. first_other number (whole_lines text)) (flat_map-cons word_line word words)
    ∙ first_other_more number word (text_of_words words)
    (ltb-true word (2 ^ word_bits) parts.0)
    ∙ first_other_none words (number + 1) parts.1

-- the first line of a text, and what is after it
record Line (text : List ℕ) : Type 0 where
  line : List ℕ
  lines : List (List ℕ)
  following : List ℕ
  is : whole_lines text ≡ line ∷ lines
  whole : text ≡ line ++ following

first_line : (first : ℕ) (rest : List ℕ) (ends : Bool) → eqb first (byte "\n") ≡ ends →
    Line (first ∷ rest)
first_line first rest true feed =
    record {
      line = first ∷ [];
      lines = whole_lines rest;
      following = rest;
      is = rw feed refl;
      whole = refl;
    }
first_line first [] false feed =
    record { line = first ∷ []; lines = []; following = []; is = rw feed refl; whole = refl }
first_line first (second ∷ rest) false feed =
    let others = first_line second rest (eqb second (byte "\n")) refl in
    record {
      line = first ∷ others.line;
      lines = others.lines;
      following = others.following;
      is = rw feed (ap (onto_first first) others.is);
      whole = ap (λ xs. first ∷ xs) others.whole;
    }

-- a text whose first line is one of a word begins with a word
begins_line : (line following : List ℕ) → is_word_line line ≡ true →
    begins_with_word (line ++ following) ≡ true
begins_line line following is =
    let count = eqb (length line) (word_octals + 1) in
    let feed = eqb (get_or line word_octals 0) (byte "\n") in
    let digits = is_octal12 (take word_octals line) in
    let parts = and_parts (count && feed) digits is in
    let others = and_parts count feed parts.0 in
    let whole : length line ≡ word_octals + 1 = eqb-true (length line) (word_octals + 1) others.0 in
    let long : nat_le (word_octals + 1) (length (line ++ following)) ≡ true =
    le-leb (word_octals + 1) (length (line ++ following))
    (omega (arith, whole, length-append line following)) in
    let last : get_or (line ++ following) word_octals 0 ≡ get_or line word_octals 0 =
    get_or_append_left line following 0 word_octals (omega (arith, whole)) in
    let front : take word_octals (line ++ following) ≡ take word_octals line =
    take-append-le word_octals line following (omega (arith, whole)) in
    rw (long, last, front, others.1, parts.1) refl

-- the first line of a text that begins with no word is the first that is not one of a word
other_line : (line following : List ℕ) → begins_with_word (line ++ following) ≡ false →
    is_word_line line ≡ false
other_line line following none = by_test (is_word_line line) refl
  where
    by_test : (is : Bool) → is_word_line line ≡ is → is_word_line line ≡ false
    by_test true is = absurd (both_ways false refl (sym none ∙ begins_line line following is))
    by_test false is = is

pub first_other_stops : (number : ℕ) (text : List ℕ) → eqb (length text) 0 ≡ false →
    begins_with_word text ≡ false → first_other number (whole_lines text) ≡ Some number
first_other_stops number [] some none = absurd (cc)
first_other_stops number (first ∷ rest) some none =
    let is = first_line first rest (eqb first (byte "\n")) refl in
    let other = other_line is.line is.following
    (sym (ap begins_with_word is.whole) ∙ none) in
    ap (first_other number) is.is ∙ rw other refl

-- a text of one word more
pub text_more : (text rest following words more : List ℕ) (word : ℕ) →
    text ≡ text_of_words words ++ rest → rest ≡ word_line word ++ following →
    more ≡ words ++ word ∷ [] → text ≡ text_of_words more ++ following
text_more text rest following words more word so_far found written =
    let lines : text_of_words more ≡ text_of_words words ++ word_line word =
    ap text_of_words written ∙ flat_map-append word_line words (word ∷ [])
    ∙ ap (λ line. text_of_words words ++ line)
    (flat_map-cons word_line word [] ∙ append-nil (word_line word)) in
    so_far ∙ ap (λ xs. text_of_words words ++ xs) found
    ∙ sym (append_assoc (text_of_words words) (word_line word) following)
    ∙ ap (λ xs. xs ++ following) (sym lines)

-- one word more
pub words_more : (words more : List ℕ) (word : ℕ) → list_all is_word words ≡ true →
    word < 2 ^ word_bits → more ≡ words ++ word ∷ [] → list_all is_word more ≡ true
words_more words more word each fits written =
    ap (list_all is_word) written ∙ list_all-append is_word words (word ∷ [])
    ∙ rw (each, lt-ltb word (2 ^ word_bits) fits) refl
