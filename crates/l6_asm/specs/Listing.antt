-- Listings: the cards of a deck, the words of each statement after its last card, and the labels.
use Rattle.std.specs.Prelude.{◌≡◌, ℕ, ◌+◌, ◌-◌, ◌==◌, Bool, true, false, not, List, [], ◌∷◌, ◌++◌, length, map, replicate, slice_get, codes, decimal, Option, Some, None, if◌then◌else◌}
use Rattle.std.specs.List.{list_all, flat_map}
use Rattle.std.specs.Str.{byte}
use Rattle.l6_word.specs.Code.{input_code, char_of}
use Rattle.l6_word.specs.Lines.{lines_of}
use Rattle.l6_word.specs.Octal.{octal12}
use Rattle.l6_prog.specs.Statement.{Parts}
use Rattle.l6_image.specs.Image.{statement_words}
use Rattle.l6_group.specs.declared.label.Label.{Label}
use Rattle.l6_card.specs.declared.role.Role.{Role}
use Rattle.l6_card.specs.declared.role.Role.TheVariants.{Skipped, First, Further}
use Rattle.l6_card.specs.Card.{columns_of}
use Rattle.l6_card.specs.Role.{role_of}
use Rattle.l6_asm.specs.Assembled.{Assembled}
use Rattle.l6_asm.specs.Spells.{Spells}
use Rattle.l6_asm.specs.Numerals.{card_places, statement_places, label_places, word_margin}

-- so many blanks
abbrev pub blanks : ℕ → List ℕ
blanks count = replicate count (byte " ")

-- a text in so many places, at their left end, or at their right end; blanks are in the others
abbrev pub left : ℕ → List ℕ → List ℕ
left places text = text ++ blanks (places - length text)

abbrev pub right : ℕ → List ℕ → List ℕ
right places text = blanks (places - length text) ++ text

-- a number at the right end of so many places; blanks where there is none
abbrev pub number_in : ℕ → Option ℕ → List ℕ
number_in places None = blanks places
number_in places (Some number) = right places (decimal number)

-- what a byte of a card shows: a small letter its capital, a tab a blank, a byte without a code `?`
abbrev pub shown : ℕ → ℕ
shown given = char_of (input_code given)

-- the byte is a blank
abbrev pub is_blank : ℕ → Bool
is_blank given = given == byte " "

-- a line without the blanks at its end
abbrev pub without_last_blanks : List ℕ → List ℕ
without_last_blanks [] = []
without_last_blanks (first ∷ rest) =
    if list_all is_blank (first ∷ rest) then [] else first ∷ without_last_blanks rest

-- the line of a card: its number, that of the statement which begins on it, and its columns; the
-- blanks at the line's end are dropped
abbrev pub card_line : Option ℕ → Option ℕ → List ℕ → List ℕ
card_line card statement columns =
    without_last_blanks
    (number_in card_places card ++ blanks 1 ++ number_in statement_places statement ++ blanks 2
    ++ map shown columns)
    ++ codes "\n"

-- the line of a word: its octal digits
abbrev pub word_line : ℕ → List ℕ
word_line word = blanks word_margin ++ octal12 word ++ codes "\n"

-- the words of a statement, if there is one
abbrev pub words_if_given : Option Parts → List ℕ
words_if_given None = []
words_if_given (Some statement) = statement_words statement

-- the words of the program's statement of this number, a line each
abbrev pub statement_lines : List Parts → ℕ → List ℕ
statement_lines program number =
    flat_map word_line (words_if_given (slice_get program number))

-- a statement goes on after a card, where the first card there that is not skipped continues it:
-- by what the next card is, and whether it goes on after that
abbrev pub goes_on_with : Role → Bool → Bool
goes_on_with Skipped following = following
goes_on_with Further following = true
goes_on_with _ following = false

-- a statement goes on in the cards of these lines
abbrev pub goes_on : List (List ℕ) → Bool
goes_on [] = false
goes_on (line ∷ lines) = goes_on_with (role_of line) (goes_on lines)

-- the number of the statement that begins on a card: such a card shows it, and no other one
abbrev pub number_on : Role → ℕ → Option ℕ
number_on First number = Some number
number_on _ number = None

-- the card is the last of its statement, by whether that goes on after it; a card that is skipped
-- belongs to none
abbrev pub is_last : Role → Bool → Bool
is_last First more = not more
is_last Further more = not more
is_last _ more = false

-- the cards of these lines, of which the first has this number, where so many statements are
-- complete: a line for each, and the words of a statement after its last card
abbrev pub cards_listed : List Parts → ℕ → ℕ → List (List ℕ) → List ℕ
cards_listed program card over [] = []
cards_listed program card over (line ∷ lines) =
    card_line (Some card) (number_on (role_of line) over) (columns_of line)
    ++ (if is_last (role_of line) (goes_on lines)
    then statement_lines program over ++ cards_listed program (card + 1) (over + 1) lines
    else cards_listed program (card + 1) over lines)

-- the statement that is added to each deck, as on a card without a number, and its word: it is the
-- program's last
abbrev pub added_listed : List Parts → List ℕ
added_listed program =
    card_line None (Some (length program - 1)) (codes " DONE")
    ++ statement_lines program (length program - 1)

-- the line of a label and of the number of its statement
abbrev pub label_line : Label × ℕ → List ℕ
label_line label =
    left label_places label.0 ++ blanks 1 ++ number_in statement_places (Some label.1) ++ codes "\n"

-- what is listed after the cards: the statement that is added, and the labels
abbrev pub end_listed : Assembled → List ℕ
end_listed assembly =
    added_listed assembly.program ++ codes "LABELS\n" ++ flat_map label_line assembly.labels

-- the listing of a deck that spells this program with these labels
unfoldable pub listing_of : List ℕ → Assembled → List ℕ
listing_of deck assembly =
    cards_listed assembly.program 1 0 (lines_of deck) ++ end_listed assembly

-- how many statements are complete after the cards of these lines, where so many are complete
-- before them
abbrev pub over_following : ℕ → List (List ℕ) → ℕ
over_following over [] = over
over_following over (line ∷ lines) =
    over_following (if is_last (role_of line) (goes_on lines) then over + 1 else over) lines

-- in the listing of a deck each statement of the program that it spells has its number and its
-- words: after the cards all statements are complete but one, the last, which is added
abbrev pub EachIsListed : Type 0
EachIsListed =
    (deck : List ℕ) (assembly : Assembled) → Spells deck assembly →
    over_following 0 (lines_of deck) + 1 ≡ length assembly.program
