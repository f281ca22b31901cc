-- Which cards a session lists, and the cards of statements.
use Rattle.std.specs.Prelude.{ℕ, ◌+◌, ◌-◌, ◌&&◌, nat_le, nat_lt, Bool, List, [], ◌∷◌, ◌++◌, length, codes, Option, Some, None, if◌then◌else◌}
use Rattle.std.specs.Option.{option_or}
use Rattle.l6_card.specs.Role.{role_of}
use Rattle.l6_word.specs.Lines.{lines_of}
use Rattle.l6_marks.specs.Cards.{added_text, begun_with, card_line, is_statement, statement_with}
use Rattle.l6_session.specs.Names.{Names}
use Rattle.l6_session.specs.Numerals.{listed_cards}
use Rattle.l6_session.specs.Reports.{is_near, near_text}
use Rattle.l6_session.specs.declared.command.Cards.{Cards}
use Rattle.l6_session.specs.declared.command.Command.{Command}
use Rattle.l6_session.specs.declared.command.Command.TheVariants.{Move, View}
use Rattle.l6_session.specs.declared.command.View.TheVariants.{ListHere, ListBefore, ListNear, ListCards}

abbrev pub cards_to : ℕ → ℕ → Cards
cards_to first last = record { first = first; last = last }

-- the cards so far, and one that follows them
abbrev pub extended : Option Cards → ℕ → Option Cards
extended None card = Some (cards_to card card)
extended (Some cards) card = Some (cards_to cards.first card)

-- from which card to which one those near a statement are, where so many cards come before these lines
abbrev pub cards_near_from : ℕ → ℕ → ℕ → Option Cards → List (List ℕ) → Option Cards
cards_near_from statement card begun found [] = found
cards_near_from statement card begun found (line ∷ lines) =
    cards_near_from statement (card + 1) (begun_with (role_of line) begun)
    (if is_near statement (begun_with (role_of line) begun) then extended found (card + 1) else found)
    lines

abbrev pub cards_near : List ℕ → ℕ → Option Cards
cards_near deck statement = cards_near_from statement 0 0 None (lines_of deck)

-- the cards that follow others in a deck of so many, if one does, and those before them
abbrev pub cards_after : ℕ → Cards → Option Cards
cards_after count cards =
    if nat_lt cards.last count then Some (cards_to (cards.last + 1) (cards.last + listed_cards)) else None

abbrev pub cards_before : Cards → Option Cards
cards_before cards =
    if nat_lt 1 cards.first then Some (cards_to (cards.first - listed_cards) (cards.first - 1)) else None

-- the cards that are listed at a statement, where these were listed last: those near it at first, and then
-- those that follow; and the cards before them
abbrev pub cards_here : List ℕ → ℕ → Option Cards → Option Cards
cards_here deck statement None = cards_near deck statement
cards_here deck statement (Some cards) = cards_after (length (lines_of deck)) cards

abbrev pub cards_back_from : Option Cards → Option Cards
cards_back_from None = None
cards_back_from (Some cards) = cards_before cards

abbrev pub cards_back : List ℕ → ℕ → Option Cards → Option Cards
cards_back deck statement listed = cards_back_from (option_or listed (cards_near deck statement))

-- the cards that were listed last, after a command at a statement: a new place has none
abbrev pub listed_after : List ℕ → ℕ → Option Cards → Command → Option Cards
listed_after deck statement listed (Move to) = None
listed_after deck statement listed (View ListHere) =
    option_or (cards_here deck statement listed) listed
listed_after deck statement listed (View ListBefore) =
    option_or (cards_back deck statement listed) listed
listed_after deck statement listed (View (ListNear s)) = option_or (cards_near deck s) listed
listed_after deck statement listed (View (ListCards cards)) = Some cards
listed_after deck statement listed other = listed

-- the lines of these cards, where so many come before them
abbrev pub is_among : Cards → ℕ → Bool
is_among cards card = nat_le cards.first card && nat_le card cards.last

abbrev pub cards_from : Cards → ℕ → List (List ℕ) → List ℕ
cards_from cards card [] = []
cards_from cards card (line ∷ lines) =
    (if is_among cards (card + 1) then card_line (card + 1) line else [])
    ++ cards_from cards (card + 1) lines

abbrev pub or_no_card : List ℕ → List ℕ
or_no_card [] = codes "No card is there\n"
or_no_card (first ∷ others) = first ∷ others

abbrev pub listed_text : List ℕ → Option Cards → List ℕ
listed_text deck None = codes "No card is there\n"
listed_text deck (Some cards) = or_no_card (cards_from cards 0 (lines_of deck))

-- what is listed at a statement
abbrev pub here_text : List ℕ → ℕ → Option Cards → List ℕ
here_text deck statement None = near_text deck statement
here_text deck statement (Some cards) =
    listed_text deck (cards_after (length (lines_of deck)) cards)

-- the lines of the cards of a statement; the one that is added to each deck has none
abbrev pub own_from : ℕ → ℕ → ℕ → List (List ℕ) → List ℕ
own_from statement card begun [] = []
own_from statement card begun (line ∷ lines) =
    (if is_statement statement (statement_with (role_of line) (begun_with (role_of line) begun))
    then card_line (card + 1) line else [])
    ++ own_from statement (card + 1) (begun_with (role_of line) begun) lines

abbrev pub own_text : Names → ℕ → List ℕ
own_text names statement =
    own_from statement 0 0 (lines_of names.deck) ++ added_text names.statements statement
