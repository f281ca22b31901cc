-- The pieces of a deck, each of which may object to the deck.
use Rattle.std.specs.Prelude.{ℕ, List, [], ◌∷◌, ◌++◌, map}
use Rattle.l6_card.specs.Items.{Item, items_of}
use Rattle.l6_card.specs.Card.{Body, Card, skipped, plain, labelled, continued, unknown, cards_of}

-- a piece: the statement before is over; a card begins a statement; a card continues one; a card
-- has a column 1 that is not allowed; a card gives its statement a label; a card has an item. A card
-- that belongs to a statement goes by its body, and else by its number.
pub data Piece : Type 0 where
  ends : Piece
  begins : Body → Piece
  continues : Body → Piece
  unknown_card : ℕ → Piece
  label : ℕ → List ℕ → Piece
  item : ℕ → Item → Piece

-- the pieces of a body: its items
abbrev pub items_on : Body → List Piece
items_on body = map (item body.card) (items_of body.offset body.columns)

-- the pieces of a card: a statement is complete only if a card does not continue it
abbrev pub pieces_of_card : Card → List Piece
pieces_of_card skipped = []
pieces_of_card (plain body) = ends ∷ begins body ∷ items_on body
pieces_of_card (labelled columns body) =
    ends ∷ begins body ∷ label body.card columns ∷ items_on body
pieces_of_card (continued body) = continues body ∷ items_on body
pieces_of_card (unknown number) = ends ∷ unknown_card number ∷ []

-- the pieces of cards
abbrev pub pieces_of_cards : List Card → List Piece
pieces_of_cards [] = ends ∷ []
pieces_of_cards (card ∷ cards) = pieces_of_card card ++ pieces_of_cards cards

-- the pieces of a deck, in order
abbrev pub pieces_of : List ℕ → List Piece
pieces_of deck = pieces_of_cards (cards_of deck)
