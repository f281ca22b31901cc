-- The numbers of the language that decks use.
use Rattle.std.specs.Prelude.{ℕ, ◌-◌}
use Rattle.l6_prog.specs.Numerals.{most_statements}

-- how many columns of a card count
unfoldable pub card_width : ℕ
card_width = 72

-- how many bytes a deck may have
abbrev pub most_deck_bytes : ℕ
most_deck_bytes = 1048576

-- how many statements a deck may write: the plain DONE that ends every program comes on top
abbrev pub most_deck_statements : ℕ
most_deck_statements = most_statements - 1

-- how many cards may continue a statement
abbrev pub most_continuations : ℕ
most_continuations = 15
