-- The laws of printouts.
use Rattle.std.specs.Prelude.{◌≡◌, ◌≤◌, ℕ, List, length}
use Rattle.l6_image.specs.Text.{IsImageOf, text_of}
use Rattle.l6_machine.specs.declared.ending.Ending.{Ending}
use Rattle.l6_machine.specs.Options.{OptionValues}
use Rattle.l6_card.specs.Numerals.{most_deck_bytes}
use Rattle.l6_asm.specs.Assembled.{Assembled}
use Rattle.l6_asm.specs.Spells.{Spells}
use Rattle.l6_run.specs.Prints.{Prints, PrintsLoaded}
use Rattle.l6_run.specs.Texts.{WritesImage}

-- a deck with an input has one printout, and its run one ending
abbrev pub PrintsInOneWay : Type 0
PrintsInOneWay =
    (options : OptionValues) (deck input : List ℕ) (ending ending' : Ending)
    (text text' : List ℕ) →
    Prints options deck input ending text → Prints options deck input ending' text' →
    (ending ≡ ending') × (text ≡ text')

-- an image with an input has one printout, and its run one ending
abbrev pub PrintsLoadedInOneWay : Type 0
PrintsLoadedInOneWay =
    (options : OptionValues) (image input : List ℕ) (ending ending' : Ending)
    (text text' : List ℕ) →
    PrintsLoaded options image input ending text →
    PrintsLoaded options image input ending' text' → (ending ≡ ending') × (text ≡ text')

-- a deck, if it is no longer than it may be, and the image of the program that it spells print the same
abbrev pub DecksPrintAsImages : Type 0
DecksPrintAsImages =
    (options : OptionValues) (deck input : List ℕ) (assembly : Assembled) (ending : Ending)
    (text : List ℕ) →
    length deck ≤ most_deck_bytes → Spells deck assembly →
    (Prints options deck input ending text →
    PrintsLoaded options (text_of assembly.program) input ending text)
    × (PrintsLoaded options (text_of assembly.program) input ending text →
    Prints options deck input ending text)

-- so do a deck and any image of its program, of either version
abbrev pub ImagesPrintAsDecks : Type 0
ImagesPrintAsDecks =
    (options : OptionValues) (deck image input : List ℕ) (assembly : Assembled) (ending : Ending)
    (text : List ℕ) →
    length deck ≤ most_deck_bytes → Spells deck assembly → IsImageOf image assembly.program →
    (Prints options deck input ending text → PrintsLoaded options image input ending text)
    × (PrintsLoaded options image input ending text → Prints options deck input ending text)

-- and so do a deck and the image that is written of it
abbrev pub WrittenImagesPrintAsDecks : Type 0
WrittenImagesPrintAsDecks =
    (options : OptionValues) (deck image input : List ℕ) (ending : Ending) (text : List ℕ) →
    WritesImage deck image →
    (Prints options deck input ending text → PrintsLoaded options image input ending text)
    × (PrintsLoaded options image input ending text → Prints options deck input ending text)
