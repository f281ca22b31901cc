-- What may keep a deck from spelling a program.
use Rattle.std.specs.Prelude.{ℕ, Option, Some, None}
use Rattle.std.specs.Option.{option_map}
use Rattle.l6_card.specs.DeckFault.{DeckFault, form, limit}
use Rattle.l6_asm.specs.declared.fault.AsmFault.{AsmFault}
use Rattle.l6_asm.specs.declared.fault.AsmFault.TheVariants.{Form, Limit, TwiceLabelled, NoLabel, NoMemory}

-- the deck is not read; an earlier card has the label of this one; this card names a label that no
-- card has
pub data AssemblyFault : Type 0 where
  unread : DeckFault → AssemblyFault
  twice_labelled : ℕ → AssemblyFault
  no_label : ℕ → AssemblyFault

-- what a fault of the assembler says of the deck: out of memory says nothing of it
abbrev pub assembly_fault : AsmFault → Option AssemblyFault
assembly_fault (Form card) = Some (unread (form card))
assembly_fault (Limit card) = Some (unread (limit card))
assembly_fault (TwiceLabelled card) = Some (twice_labelled card)
assembly_fault (NoLabel card) = Some (no_label card)
assembly_fault NoMemory = None

-- what a fault of the deck's reader says of its assembly
abbrev pub unread_fault : Option DeckFault → Option AssemblyFault
unread_fault found = option_map unread found
