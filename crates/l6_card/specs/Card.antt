-- Cards.
use Rattle.std.specs.Prelude.{ℕ, ◌+◌, ◌==◌, ◌||◌, List, [], ◌∷◌, length, take, if◌then◌else◌}
use Rattle.std.specs.List.{list_all}
use Rattle.std.specs.Str.{byte}
use Rattle.l6_word.specs.Lines.{lines_of, without_return}
use Rattle.l6_group.specs.Character.{is_blank, is_letter, is_letter_or_digit}
use Rattle.l6_card.specs.Numerals.{card_width}

-- the columns of a line that count
abbrev pub columns_of : List ℕ → List ℕ
columns_of line = take card_width (without_return line)

-- the longest run of letters and digits that columns begin with
abbrev pub run_of : List ℕ → List ℕ
run_of [] = []
run_of (column ∷ columns) = if is_letter_or_digit column then column ∷ run_of columns else []

-- what follows that run
abbrev pub following_run : List ℕ → List ℕ
following_run [] = []
following_run (column ∷ columns) =
    if is_letter_or_digit column then following_run columns else column ∷ columns

-- the columns of a card after its column 1 or its label; with the card's number, the offset of the
-- first of them in the deck, and what is in front of them: column 1, or the label
pub record Body : Type 0 where
  pub card : ℕ
  pub offset : ℕ
  pub front : List ℕ
  pub columns : List ℕ

-- what a card is: skipped; a statement without a label, with this body; a statement with these
-- columns as its label, and this body; a card that continues the latest statement with this body;
-- or a card, by its number, with a column 1 that is not allowed
pub data Card : Type 0 where
  skipped : Card
  plain : Body → Card
  labelled : List ℕ → Body → Card
  continued : Body → Card
  unknown : ℕ → Card

-- the card with this number, column 1 at this offset, and these columns: a comment has `*` in
-- column 1, a blank card says nothing, a statement has a blank or a letter in column 1, and a card
-- that continues one has `+`
abbrev pub card_of : ℕ → ℕ → List ℕ → Card
card_of number offset [] = skipped
card_of number offset (column ∷ columns) =
    if column == byte "*" || list_all is_blank (column ∷ columns) then skipped
    else if is_blank column then
    plain (record { card = number; offset = offset + 1; front = column ∷ []; columns = columns })
    else if column == byte "+" then
    continued (record { card = number; offset = offset + 1; front = column ∷ []; columns = columns })
    else if is_letter column then
    labelled (run_of (column ∷ columns)) (record {
      card = number;
      offset = offset + length (run_of (column ∷ columns));
      front = run_of (column ∷ columns);
      columns = following_run (column ∷ columns);
    })
    else unknown number

-- the cards of lines, of which the first has this number and this offset; a line and its line feed
-- lie between one offset and the next
abbrev pub cards_from : ℕ → ℕ → List (List ℕ) → List Card
cards_from number offset [] = []
cards_from number offset (line ∷ lines) =
    card_of number offset (columns_of line)
    ∷ cards_from (number + 1) (offset + length line + 1) lines

-- the cards of a deck, one for each line, numbered from 1
abbrev pub cards_of : List ℕ → List Card
cards_of deck = cards_from 1 0 (lines_of deck)
