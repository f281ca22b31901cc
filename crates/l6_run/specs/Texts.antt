-- What is written of a deck that is not run, its image or its listing, and of an image that is
-- rewritten.
use Rattle.std.specs.Prelude.{◌≡◌, ℕ, ◌<◌, ◌≤◌, List, length, IsSomeAnd}
use Rattle.l6_prog.specs.Statement.{Parts}
use Rattle.l6_image.specs.Image.{HasImage}
use Rattle.l6_image.specs.Numerals.{most_bytes}
use Rattle.l6_image.specs.Text.{text_of, IsImageOf}
use Rattle.l6_image.specs.declared.version.Version.TheVariants.{Two}
use Rattle.l6_card.specs.Numerals.{most_deck_bytes}
use Rattle.l6_asm.specs.AssemblyFault.{assembly_fault}
use Rattle.l6_asm.specs.Assembled.{Assembled}
use Rattle.l6_asm.specs.Listing.{listing_of}
use Rattle.l6_asm.specs.Spells.{Spells, IsUnspelled}
use Rattle.l6_device.specs.declared.fault.Part.TheVariants.{Deck, Image}
use Rattle.l6_device.specs.declared.fault.RunFault.{RunFault}
use Rattle.l6_device.specs.declared.fault.RunFault.TheVariants.{TooLong, Asm, Load}
use Rattle.l6_run.specs.Prints.{IsNoImage}

-- the text is that of the deck's image: the deck is no longer than it may be and spells a program,
-- which has an image, and this is its text
pub record WritesImage (deck text : List ℕ) : Type 0 where
  pub fits : length deck ≤ most_deck_bytes
  pub assembly : Assembled
  pub spelled : Spells deck assembly
  pub known : HasImage Two assembly.program
  pub written : text ≡ text_of assembly.program

-- the text is the deck's listing: the deck is no longer than it may be and spells a program, and so it
-- is listed
pub record WritesListing (deck text : List ℕ) : Type 0 where
  pub fits : length deck ≤ most_deck_bytes
  pub assembly : Assembled
  pub spelled : Spells deck assembly
  pub written : text ≡ listing_of deck assembly

-- why nothing is written of a deck: it is too long, or it spells no program
abbrev pub RefusesCards : List ℕ → RunFault → Type 0
RefusesCards deck (TooLong Deck) = most_deck_bytes < length deck
RefusesCards deck (Asm fault) =
    (length deck ≤ most_deck_bytes) × IsSomeAnd (assembly_fault fault) (IsUnspelled deck)
RefusesCards deck other = ⊥

-- the text is that of the image once more, of the version that is written: the image is no longer
-- than it may be and is that of a program, of which this is the text
pub record RewritesImage (image text : List ℕ) : Type 0 where
  pub fits : length image ≤ most_bytes
  pub program : List Parts
  pub loaded : IsImageOf image program
  pub known : HasImage Two program
  pub written : text ≡ text_of program

-- why an image is not written again: it is too long, or its text is that of no image
abbrev pub RefusesRewriting : List ℕ → RunFault → Type 0
RefusesRewriting image (TooLong Image) = most_bytes < length image
RefusesRewriting image (Load fault) = (length image ≤ most_bytes) × IsNoImage image fault
RefusesRewriting image other = ⊥
