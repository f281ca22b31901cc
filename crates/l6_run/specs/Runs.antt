-- What becomes of calls that read the parts of a job from readers, the one whole before the next.
use Rattle.std.specs.Prelude.{ℕ, List, Option, Result}
use Rattle.l6_machine.specs.Options.{OptionValues}
use Rattle.l6_machine.specs.declared.ending.Ending.{Ending}
use Rattle.l6_device.specs.Transfer.{Reads}
use Rattle.l6_device.specs.declared.fault.Part.TheVariants.{Deck, Image, Input}
use Rattle.l6_device.specs.declared.fault.RunFault.{RunFault}
use Rattle.l6_run.specs.Prints.{Prints, PrintsLoaded, RefusesDeck, RefusesImage}
use Rattle.l6_run.specs.Serves.{Serves}
use Rattle.l6_run.specs.Texts.{RefusesCards, RefusesRewriting, RewritesImage}

-- what became of a run of a deck: what the reader of the deck gave, what that of the input gave, and
-- what went out for it
abbrev pub Runs : OptionValues → Option (List ℕ) → Option (List ℕ) → Option (List ℕ) →
    Option (List ℕ) → Option (List ℕ) → Option (List ℕ) → Result Ending RunFault → Type 0
Runs options deck deck' input input' taken taken' result =
    Reads Deck deck deck' taken taken' (λ cards.
    Reads Input input input' taken taken' (λ characters.
    Serves (Prints options cards characters) (RefusesDeck cards characters) taken taken' result)
    result) result

-- what became of a run of an image: what the reader of the image gave, what that of the input gave, and
-- what went out for it
abbrev pub RunsImage : OptionValues → Option (List ℕ) → Option (List ℕ) → Option (List ℕ) →
    Option (List ℕ) → Option (List ℕ) → Option (List ℕ) → Result Ending RunFault → Type 0
RunsImage options image image' input input' taken taken' result =
    Reads Image image image' taken taken' (λ lines.
    Reads Input input input' taken taken' (λ characters.
    Serves (PrintsLoaded options lines characters) (RefusesImage lines characters)
    taken taken' result) result) result

-- what became of a deck of which a text was to be written: what its reader gave, and what went out
-- for it
abbrev pub WritesText : (List ℕ → List ℕ → Type 0) → Option (List ℕ) → Option (List ℕ) →
    Option (List ℕ) → Option (List ℕ) → Result (Unit {0}) RunFault → Type 0
WritesText Writes deck deck' taken taken' result =
    Reads Deck deck deck' taken taken' (λ cards.
    Serves (λ _ text. Writes cards text) (RefusesCards cards) taken taken' result) result

-- what became of an image that was to be written again: what its reader gave, and what went out for it
abbrev pub Rewrites : Option (List ℕ) → Option (List ℕ) → Option (List ℕ) → Option (List ℕ) →
    Result (Unit {0}) RunFault → Type 0
Rewrites image image' taken taken' result =
    Reads Image image image' taken taken' (λ lines.
    Serves (λ _ text. RewritesImage lines text) (RefusesRewriting lines) taken taken' result) result
