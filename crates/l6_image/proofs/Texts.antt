-- Texts tell words, and programs.
use Rattle.std.proofs.Common.{◌≡◌, ℕ, ◌^◌, ◌<◌, List, [], ◌∷◌, ◌++◌, length, take, drop, true, eqb, Some, refl, ap, sym, ◌∙◌, arith, append_assoc, length-append}
use Rattle.std.specs.List.{list_all}
use Rattle.std.specs.Str.{byte}
use Rattle.std.specs.Str.Parse.{digits_value}
use Rattle.std.proofs.lemmas.Bool.{and_parts, eqb-true, ltb-true}
use Rattle.std.proofs.lemmas.List.Concat.{flat_map-cons}
use Rattle.std.proofs.Math.Seq.{take-append_seam, drop-append_seam}
use Rattle.l6_word.specs.Numerals.{word_bits, word_octals}
use Rattle.l6_word.specs.Octal.{octal12, is_octal_digit}
use Rattle.l6_word.proofs.Octals.{octals_are_read_again}
use Rattle.l6_prog.specs.Statement.{Parts}
use Rattle.l6_word.specs.Word.{is_word}
use Rattle.l6_image.specs.Image.{words_in, HasImage}
use Rattle.l6_image.specs.declared.version.Version.{Version}
use Rattle.l6_image.specs.Text.{word_line, text_of_words, text_in}
use Rattle.l6_image.specs.Load.{ImagesAreOfOneProgram}
use Rattle.l6_image.specs.inner.decode.Loading.{program_in}
use Rattle.l6_image.proofs.Fitness.{words_in-words}
use Rattle.l6_image.proofs.Programs.{program_in_again}

-- a word has twelve digits
octal12_length : (word : ℕ) → word < 2 ^ word_bits → length (octal12 word) ≡ word_octals
octal12_length word fits =
    let digits : List ℕ = octal12 word in
    let parts = and_parts (eqb (length digits) word_octals) (list_all is_octal_digit digits)
    (octals_are_read_again word fits).0 in
    eqb-true (length digits) word_octals parts.0

-- the digits in front of a text, and what is after them
line_front : (word : ℕ) (rest : List ℕ) → word < 2 ^ word_bits →
    take word_octals (word_line word ++ rest) ≡ octal12 word
line_front word rest fits =
    ap (take word_octals) (append_assoc (octal12 word) (byte "\n" ∷ []) rest)
    ∙ ap (λ n. take n (octal12 word ++ byte "\n" ∷ rest)) (sym (octal12_length word fits))
    ∙ take-append_seam (octal12 word) (byte "\n" ∷ rest)

line_following : (word : ℕ) (rest : List ℕ) → word < 2 ^ word_bits →
    drop word_octals (word_line word ++ rest) ≡ byte "\n" ∷ rest
line_following word rest fits =
    ap (drop word_octals) (append_assoc (octal12 word) (byte "\n" ∷ []) rest)
    ∙ ap (λ n. drop n (octal12 word ++ byte "\n" ∷ rest)) (sym (octal12_length word fits))
    ∙ drop-append_seam (octal12 word) (byte "\n" ∷ rest)

-- two texts that are one have one first word, and one rest
same_word : (one other : ℕ) (xs ys : List ℕ) → one < 2 ^ word_bits → other < 2 ^ word_bits →
    word_line one ++ xs ≡ word_line other ++ ys → one ≡ other
same_word one other xs ys fits too same =
    sym (octals_are_read_again one fits).1
    ∙ ap (digits_value 8) (sym (line_front one xs fits) ∙ ap (take word_octals) same
    ∙ line_front other ys too)
    ∙ (octals_are_read_again other too).1

same_rest : (one other : ℕ) (xs ys : List ℕ) → one < 2 ^ word_bits → other < 2 ^ word_bits →
    word_line one ++ xs ≡ word_line other ++ ys → xs ≡ ys
same_rest one other xs ys fits too same =
    let rest : byte "\n" ∷ xs ≡ byte "\n" ∷ ys =
    sym (line_following one xs fits) ∙ ap (drop word_octals) same ∙ line_following other ys too in
    cc

-- a line is not empty
line_some : (word : ℕ) (rest : List ℕ) → [] ≡ word_line word ++ rest → ⊥
line_some word rest same =
    omega (
      arith,
      ap length same,
      length-append (word_line word) rest,
      length-append (octal12 word) (byte "\n" ∷ []),
    )

-- the lines of words tell the words
pub same_words : (words others : List ℕ) → list_all is_word words ≡ true →
    list_all is_word others ≡ true → text_of_words words ≡ text_of_words others → words ≡ others
same_words [] [] each every same = refl
same_words [] (other ∷ others) each every same =
    absurd (line_some other (text_of_words others) (same ∙ flat_map-cons word_line other others))
same_words (word ∷ words) [] each every same =
    absurd (line_some word (text_of_words words) (sym same ∙ flat_map-cons word_line word words))
same_words (word ∷ words) (other ∷ others) each every same =
    let a = and_parts (is_word word) (list_all is_word words) each in
    let b = and_parts (is_word other) (list_all is_word others) every in
    let fits = ltb-true word (2 ^ word_bits) a.0 in
    let too = ltb-true other (2 ^ word_bits) b.0 in
    let lines : word_line word ++ text_of_words words ≡ word_line other ++ text_of_words others =
    sym (flat_map-cons word_line word words) ∙ same ∙ flat_map-cons word_line other others in
    ap (λ w. w ∷ words)
    (same_word word other (text_of_words words) (text_of_words others) fits too lines)
    ∙ ap (λ ws. other ∷ ws) (same_words words others a.1 b.1
    (same_rest word other (text_of_words words) (text_of_words others) fits too lines))

-- words whose lines are the text of a program's image are the program's
pub words_are : (text words : List ℕ) (version : Version) (program : List Parts) →
    list_all is_word words ≡ true → HasImage version program → text ≡ text_of_words words →
    text ≡ text_in version program → words ≡ words_in version program
unfolding text_in
words_are text words version program each has lines same =
    same_words words (words_in version program) each (words_in-words version program has)
    (sym lines ∙ same)

-- and the program is found in them
pub program_in_words : (text words : List ℕ) (version : Version) (program : List Parts) →
    list_all is_word words ≡ true → HasImage version program → text ≡ text_of_words words →
    text ≡ text_in version program → program_in words ≡ Some (version, program)
program_in_words text words version program each has lines same =
    ap program_in (words_are text words version program each has lines same)
    ∙ program_in_again version program has

-- what is found twice is one
pub same_found : (one other : Version × List Parts) → Some one ≡ Some other → one ≡ other
same_found one other same = cc

-- no text is that of two programs
pub images_are_of_one_program : ImagesAreOfOneProgram
unfolding text_in
images_are_of_one_program text one other is too =
    let found : Some (is.0, one) ≡ Some (too.0, other) =
    sym (program_in_again is.0 one is.1)
    ∙ program_in_words text (words_in is.0 one) too.0 other (words_in-words is.0 one is.1) too.1
    is.2 too.2 in
    ap (λ (p : Version × List Parts). p.1) (same_found (is.0, one) (too.0, other) found)
