-- The relation between a deck and the statements that it says.
use Rattle.std.specs.Prelude.{◌≡◌, ℕ, ◌+◌, ◌≤◌, true, List, [], ◌∷◌, ◌++◌, map, length, Option, Some, None}
use Rattle.l6_card.specs.declared.cards.PlacedLabel.{PlacedLabel}
use Rattle.l6_card.specs.Numerals.{most_deck_statements, most_continuations}
use Rattle.l6_card.specs.Items.{PlacedItem, item_on, items_of}
use Rattle.l6_card.specs.Card.{Body, Card, skipped, plain, labelled, continued, unknown, cards_of}
use Rattle.l6_card.specs.Statement.{DeckStatementParts, label_on, is_fit}
use Rattle.l6_card.specs.Denotes.{ItemsDenote}

-- the items of a body, on its card
abbrev pub placed_items : Body → List PlacedItem
placed_items body = map (item_on body.card) (items_of body.offset body.columns)

-- the items of the cards that continue the statement before these cards
abbrev pub continued_items : List Card → List PlacedItem
continued_items (skipped ∷ cards) = continued_items cards
continued_items (continued body ∷ cards) = placed_items body ++ continued_items cards
continued_items _ = []

-- how many cards continue the statement before these cards
abbrev pub continuations : List Card → ℕ
continuations (skipped ∷ cards) = continuations cards
continuations (continued body ∷ cards) = continuations cards + 1
continuations _ = 0

-- a statement with this label and these items: it is fit for a program, and not too many cards
-- continue it
pub record Denotes (label : Option PlacedLabel) (items : List PlacedItem) (further : ℕ)
    (statement : DeckStatementParts) : Type 0 where
  pub labelled : statement.label ≡ label
  pub denote : ItemsDenote items statement
  pub fit : is_fit statement ≡ true
  pub few : further ≤ most_continuations

-- the statement whose first card has this label and this body, with these cards after it
abbrev pub DenotesFrom : Option PlacedLabel → Body → List Card → DeckStatementParts → Type 0
DenotesFrom label body cards statement =
    Denotes label (placed_items body ++ continued_items cards) (continuations cards) statement

-- the cards say these statements; a skipped card says nothing, a continued one belongs to the
-- statement before, and an unknown one is not read
abbrev pub CardsDenote : List Card → List DeckStatementParts → Type 0
CardsDenote [] [] = Unit {0}
CardsDenote [] (statement ∷ statements) = ⊥
CardsDenote (skipped ∷ cards) statements = CardsDenote cards statements
CardsDenote (plain body ∷ cards) [] = ⊥
CardsDenote (plain body ∷ cards) (statement ∷ statements) =
    DenotesFrom None body cards statement × CardsDenote cards statements
CardsDenote (labelled columns body ∷ cards) [] = ⊥
CardsDenote (labelled columns body ∷ cards) (statement ∷ statements) =
    ((label : PlacedLabel) × (label_on body.card columns ≡ Some label)
    × DenotesFrom (Some label) body cards statement)
    × CardsDenote cards statements
CardsDenote (continued body ∷ cards) statements = CardsDenote cards statements
CardsDenote (unknown number ∷ cards) statements = ⊥

-- the deck says these statements: no card continues one before the first, and they are not too many
pub record ReadsAs (deck : List ℕ) (statements : List DeckStatementParts) : Type 0 where
  pub begins : continuations (cards_of deck) ≡ 0
  pub cards : CardsDenote (cards_of deck) statements
  pub fits : length statements ≤ most_deck_statements
