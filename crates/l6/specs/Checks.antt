-- What is said of a deck that is checked.
use Rattle.std.specs.Prelude.{ℕ, ◌<◌, ◌≤◌, List, length}
use Rattle.l6_card.specs.Numerals.{most_deck_bytes}
use Rattle.l6_check.specs.Counted.{CountsErrors}
use Rattle.l6_device.specs.declared.fault.Part.TheVariants.{Deck}
use Rattle.l6_device.specs.declared.fault.RunFault.{RunFault}
use Rattle.l6_device.specs.declared.fault.RunFault.TheVariants.{TooLong}

-- a deck that is no longer than it may be has so many errors: none exactly if it spells a program. Of
-- the words of the text nothing is claimed
pub record ChecksDeck (deck : List ℕ) (errors : ℕ) (text : List ℕ) : Type 0 where
  pub fits : length deck ≤ most_deck_bytes
  pub counted : CountsErrors deck errors

-- why nothing is said of a deck: it is too long
abbrev pub RefusesCheck : List ℕ → RunFault → Type 0
RefusesCheck deck (TooLong Deck) = most_deck_bytes < length deck
RefusesCheck deck other = ⊥
