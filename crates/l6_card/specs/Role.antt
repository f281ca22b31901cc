-- What cards are to the statements of their deck.
use Rattle.std.specs.Prelude.{ℕ, List}
use Rattle.l6_card.specs.declared.role.Role.{Role}
use Rattle.l6_card.specs.declared.role.Role.TheVariants.{Skipped, First, Further, Unknown}
use Rattle.l6_card.specs.Card.{Card, skipped, plain, labelled, continued, unknown, card_of, columns_of}

-- what a card is: it belongs to no statement, is the first card of one, continues the latest one, or
-- is not allowed
abbrev pub role_in : Card → Role
role_in skipped = Skipped
role_in (plain body) = First
role_in (labelled columns body) = First
role_in (continued body) = Further
role_in (unknown number) = Unknown

-- what the card of a line is: as the first card of a deck, since its number and its offset change
-- nothing
abbrev pub role_of : List ℕ → Role
role_of line = role_in (card_of 1 0 (columns_of line))
