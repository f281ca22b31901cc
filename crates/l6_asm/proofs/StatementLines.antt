-- The lines of a statement's words.
use Rattle.std.proofs.Common.{◌≡◌, ℕ, ◌+◌, ◌<◌, ◌≤◌, List, [], ◌∷◌, ◌++◌, length, map, take, get_or, true, ap, sym, ◌∙◌, Some, arith}
use Rattle.std.specs.List.{list_all, flat_map}
use Rattle.std.proofs.lemmas.List.{take_more, flat_map_more, map_more}
use Rattle.std.proofs.lemmas.Option.{slice_get-get_or, slice_get_past}
use Rattle.l6_prog.specs.Numerals.{most_statements}
use Rattle.l6_prog.specs.Statement.{Parts}
use Rattle.l6_prog.specs.Target.{is_below, targets_of}
use Rattle.l6_image.specs.Image.{statement_words}
use Rattle.l6_image.proofs.Knowing.{below_more}
use Rattle.l6_asm.specs.Listing.{word_line, words_if_given, statement_lines}

-- one word more
pub word_more : (old text more : List ℕ) (words : List ℕ) (place word : ℕ) → place < length words →
    word ≡ get_or words place word → text ≡ old ++ flat_map word_line (take place words) →
    more ≡ text ++ word_line word → more ≡ old ++ flat_map word_line (take (place + 1) words)
word_more old text more words place word within is so_far added =
    added ∙ ap (λ t. t ++ word_line word) so_far
    ∙ flat_map_more word_line old (take place words) word
    ∙ ap (λ ws. old ++ flat_map word_line ws)
    (ap (λ w. take place words ++ w ∷ []) is ∙ sym (take_more words place word within))

-- the words of a statement of the program
pub lines_of : (program : List Parts) (number : ℕ) (statement d : Parts) (words : List ℕ) →
    number < length program → statement ≡ get_or program number d →
    words ≡ statement_words statement → flat_map word_line words ≡ statement_lines program number
lines_of program number statement d words within is same =
    ap (flat_map word_line) (same
    ∙ ap words_if_given (ap Some is ∙ sym (slice_get-get_or program number d within)))

-- there are none after the program's last statement
pub lines_past : (program : List Parts) (number : ℕ) → length program ≤ number →
    [] ≡ statement_lines program number
lines_past program number past =
    ap (λ s. flat_map word_line (words_if_given s)) (sym (slice_get_past program number past))

-- each target of a program's statement is one that an image can tell
pub targets_known : (program : List Parts) (statement : Parts) → length program ≤ most_statements →
    list_all (is_below (length program)) (targets_of statement) ≡ true →
    list_all (is_below most_statements) (targets_of statement) ≡ true
targets_known program statement few below =
    below_more (length program) most_statements (targets_of statement) (omega (arith, few)) below

-- the words of one statement more
pub statement_more : (program : List Parts) (number : ℕ) (statement d : Parts)
    (words : List ℕ) (made more : List (List ℕ)) → number < length program →
    statement ≡ get_or program number d → words ≡ statement_words statement →
    made ≡ map statement_words (take number program) → more ≡ made ++ words ∷ [] →
    more ≡ map statement_words (take (number + 1) program)
statement_more program number statement d words made more within is same so_far added =
    added ∙ ap (λ all. all ++ words ∷ []) so_far
    ∙ ap (λ w. map statement_words (take number program) ++ w ∷ []) (same ∙ ap statement_words is)
    ∙ sym (map_more statement_words program number d within)
