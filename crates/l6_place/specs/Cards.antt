-- Where the cards of a deck begin, and the places of their columns as editors count them.
use Rattle.std.specs.Prelude.{ℕ, zero, suc, ◌+◌, ◌==◌, Bool, true, false, List, [], ◌∷◌, length, drop, min, if◌then◌else◌}
use Rattle.std.specs.Str.{byte}
use Rattle.l6_word.specs.Lines.{lines_of, without_return}
use Rattle.l6_card.specs.Role.{role_of}
use Rattle.l6_card.specs.declared.role.Role.{Role}
use Rattle.l6_card.specs.declared.role.Role.TheVariants.{Skipped, First, Further, Unknown}
use Rattle.l6_place.specs.Spot.{units_of, is_last_of_end}
use Rattle.l6_place.specs.declared.spot.Spot.{Spot}

-- how many bytes of a text are in front of its line of this number, counted from 0, where lines end at line feeds:
-- all of them, where it has too few lines
abbrev pub before_line : ℕ → List ℕ → ℕ
before_line zero text = 0
before_line (suc lines) [] = 0
before_line (suc lines) (first ∷ rest) =
    suc (if first == byte "\n" then before_line lines rest else before_line (suc lines) rest)

-- how many bytes of a deck are in front of a card, numbered from 1: all of them, where there is no such card
abbrev pub card_start : List ℕ → ℕ → ℕ
card_start deck zero = length deck
card_start deck (suc before) = before_line before deck

abbrev pub first_of : List (List ℕ) → List ℕ
first_of [] = []
first_of (line ∷ lines) = line

-- the line of a card without its end: nothing, where there is no such card
abbrev pub card_line : List ℕ → ℕ → List ℕ
card_line deck card = without_return (first_of (lines_of (drop (card_start deck card) deck)))

-- the place after a byte, with those that follow it
abbrev pub next_spot : Spot → ℕ → List ℕ → Spot
next_spot spot first rest =
    if is_last_of_end first rest then record { line = suc spot.line; character = 0 }
    else record { line = spot.line; character = spot.character + units_of first }

-- the place after so many bytes of a text that follow a place
abbrev pub spot_after : Spot → ℕ → List ℕ → Spot
spot_after spot zero text = spot
spot_after spot (suc count) [] = spot
spot_after spot (suc count) (first ∷ rest) = spot_after (next_spot spot first rest) count rest

-- the beginning of a line
abbrev pub line_spot : ℕ → Spot
line_spot line = record { line = line; character = 0 }

-- how many bytes of a deck are in front of a column of a card, counted from 0: those in front of the end of its line,
-- where the column is past that
abbrev pub before_column : List ℕ → ℕ → ℕ → ℕ
before_column deck card column = card_start deck card + min column (length (card_line deck card))

-- the place of a column of a card
abbrev pub spot_of : List ℕ → ℕ → ℕ → Spot
spot_of deck card column = spot_after (line_spot 0) (before_column deck card column) deck

-- a line is the first card of a statement
abbrev pub is_first : Role → Bool
is_first First = true
is_first Skipped = false
is_first Further = false
is_first Unknown = false

-- the cards that begin statements, of lines of which the first is a card of this number
abbrev pub first_cards_from : ℕ → List (List ℕ) → List ℕ
first_cards_from card [] = []
first_cards_from card (line ∷ lines) =
    if is_first (role_of line) then card ∷ first_cards_from (suc card) lines
    else first_cards_from (suc card) lines

-- the cards of a deck that begin statements, numbered from 1, in order
abbrev pub first_cards : List ℕ → List ℕ
first_cards deck = first_cards_from 1 (lines_of deck)
