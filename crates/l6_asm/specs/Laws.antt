-- The laws of the images of decks.
use Rattle.std.specs.Prelude.{ℕ, ◌≤◌, List, length}
use Rattle.l6_card.specs.Numerals.{most_deck_bytes}
use Rattle.l6_image.specs.Image.{HasImage}
use Rattle.l6_image.specs.Numerals.{most_bytes}
use Rattle.l6_image.specs.Text.{IsImageOf}
use Rattle.l6_image.specs.declared.version.Version.TheVariants.{Two}
use Rattle.l6_asm.specs.Assembled.{Assembled}
use Rattle.l6_asm.specs.Spells.{Spells}

-- what a deck spells is a program, and has an image of the second version
abbrev pub DecksHaveImages : Type 0
DecksHaveImages =
    (deck : List ℕ) (assembly : Assembled) → Spells deck assembly → HasImage Two assembly.program

-- the image of the program that a deck spells, of either version, is no longer than an image may be,
-- if the deck is no longer than a deck may be
abbrev pub ImagesOfDecksFit : Type 0
ImagesOfDecksFit =
    (deck image : List ℕ) (assembly : Assembled) →
    length deck ≤ most_deck_bytes → Spells deck assembly → IsImageOf image assembly.program →
    length image ≤ most_bytes
