-- What may be wrong with a deck.
use Rattle.std.specs.Prelude.{ℕ, Option, Some, None}
use Rattle.l6_card.specs.declared.fault.CardFault.{CardFault}
use Rattle.l6_card.specs.declared.fault.CardFault.TheVariants.{Form, Limit, NoMemory}

-- what may be wrong with a deck, and on which card: something has no reading, or there is too much
-- of something
pub data DeckFault : Type 0 where
  form : ℕ → DeckFault
  limit : ℕ → DeckFault

-- what a fault of the reader says of the deck: out of memory says nothing of it
abbrev pub deck_fault : CardFault → Option DeckFault
deck_fault (Form card) = Some (form card)
deck_fault (Limit card) = Some (limit card)
deck_fault NoMemory = None
