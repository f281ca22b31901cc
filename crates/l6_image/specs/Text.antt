-- The texts of images.
use Rattle.std.specs.Prelude.{◌≡◌, ℕ, ◌+◌, ◌==◌, List, [], ◌∷◌, ◌++◌, length, take, slice_index, Option, Some, None, Bool, ◌&&◌, if◌then◌else◌}
use Rattle.std.specs.List.{flat_map, onto_first}
use Rattle.std.specs.Str.{byte}
use Rattle.l6_word.specs.Numerals.{word_octals}
use Rattle.l6_word.specs.Octal.{octal12, is_octal12}
use Rattle.l6_prog.specs.Statement.{Parts}
use Rattle.l6_image.specs.Image.{words_in, HasImage}
use Rattle.l6_image.specs.declared.version.Version.{Version}
use Rattle.l6_image.specs.declared.version.Version.TheVariants.{Two}

-- the line of a word: its octal digits and a line feed
abbrev pub word_line : ℕ → List ℕ
word_line word = octal12 word ++ byte "\n" ∷ []

-- the lines of words
abbrev pub text_of_words : List ℕ → List ℕ
text_of_words words = flat_map word_line words

-- the text of a program's image
unfoldable pub text_in : Version → List Parts → List ℕ
text_in version program = text_of_words (words_in version program)

-- what is written is of the second version
abbrev pub text_of : List Parts → List ℕ
text_of program = text_in Two program

-- the text is that of a program's image, in one of the versions
abbrev pub IsImageOf : List ℕ → List Parts → Type 0
IsImageOf text program =
    (version : Version) × HasImage version program × (text ≡ text_in version program)

abbrev pub IsImage : List ℕ → Type 0
IsImage text = (program : List Parts) × IsImageOf text program

-- the lines of a text, each with its line feed; the last one may lack it
abbrev pub whole_lines : List ℕ → List (List ℕ)
whole_lines [] = []
whole_lines (first ∷ rest) =
    if first == byte "\n" then (first ∷ []) ∷ whole_lines rest
    else onto_first first (whole_lines rest)

-- the line is one of a word: twelve octal digits, a line feed, and nothing else
abbrev pub is_word_line : List ℕ → Bool
is_word_line line =
    length line == word_octals + 1 && slice_index line word_octals == byte "\n"
    && is_octal12 (take word_octals line)

-- the number of the first line that is not one of a word, where the first of these lines has this
-- number
abbrev pub first_other : ℕ → List (List ℕ) → Option ℕ
first_other number [] = None
first_other number (line ∷ lines) =
    if is_word_line line then first_other (number + 1) lines else Some number
