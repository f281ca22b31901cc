-- The lines of a deck's cards that are not listed yet.
use Rattle.std.specs.Prelude.{ℕ, ◌+◌, Bool, List, [], ◌∷◌, ◌++◌, Some, if◌then◌else◌}
use Rattle.std.specs.List.{list_all, flat_map}
use Rattle.l6_word.specs.Word.{is_word}
use Rattle.l6_card.specs.Card.{columns_of}
use Rattle.l6_card.specs.Role.{role_of}
use Rattle.l6_asm.specs.Listing.{card_line, goes_on, is_last, number_on, word_line}

-- the greatest number that a card may have here
abbrev pub most_cards : ℕ
most_cards = 9223372036854775807

-- each is a word
abbrev pub are_words : List ℕ → Bool
are_words = list_all is_word

-- the words of the first of some statements, and the others; after the last one there are none
abbrev pub first_words : List (List ℕ) → List ℕ
first_words [] = []
first_words (words ∷ statements) = words

abbrev pub other_words : List (List ℕ) → List (List ℕ)
other_words [] = []
other_words (words ∷ statements) = statements

-- the cards of these lines, with the words of the statements that are not complete, where so many
-- cards and statements are before them
abbrev pub cards_left : List (List ℕ) → ℕ → ℕ → List (List ℕ) → List ℕ
cards_left statements card over [] = []
cards_left statements card over (line ∷ lines) =
    card_line (Some (card + 1)) (number_on (role_of line) over) (columns_of line)
    ++ (if is_last (role_of line) (goes_on lines)
    then flat_map word_line (first_words statements)
    ++ cards_left (other_words statements) (card + 1) (over + 1) lines
    else cards_left statements (card + 1) over lines)

-- the lines of words, and those of the cards after them
abbrev pub text_left : List ℕ → List (List ℕ) → ℕ → ℕ → List (List ℕ) → List ℕ
text_left words statements card over lines =
    flat_map word_line words ++ cards_left statements card over lines
