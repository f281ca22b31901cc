-- The numbers of the lines of cards.
use Rattle.std.specs.Prelude.{ℕ}

-- in how many columns the number of a card is
abbrev pub card_places : ℕ
card_places = 5
