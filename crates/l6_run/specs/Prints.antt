-- What the run of a deck prints, and that of an image.
use Rattle.std.specs.Prelude.{◌≡◌, ℕ, ◌<◌, ◌≤◌, List, length, IsSomeAnd}
use Rattle.l6_prog.specs.Statement.{Parts}
use Rattle.l6_image.specs.Load.{TextHasFault}
use Rattle.l6_image.specs.Numerals.{most_bytes}
use Rattle.l6_image.specs.Text.{IsImageOf}
use Rattle.l6_image.specs.declared.fault.LoadFault.{LoadFault}
use Rattle.l6_image.specs.declared.fault.LoadFault.TheVariants as load
use Rattle.l6_store.specs.Rule.{Rule}
use Rattle.l6_steps.specs.Configuration.{EndsBy}
use Rattle.l6_steps.specs.Numerals.{most_input}
use Rattle.l6_steps.specs.Run.{EndsIn}
use Rattle.l6_steps.specs.State.{State, RunContext}
use Rattle.l6_machine.specs.declared.ending.Ending.{Ending}
use Rattle.l6_machine.specs.Options.{OptionValues, context_under, store_rule}
use Rattle.l6_machine.specs.Printout.{ending_of, printout}
use Rattle.l6_card.specs.Numerals.{most_deck_bytes}
use Rattle.l6_asm.specs.AssemblyFault.{assembly_fault}
use Rattle.l6_asm.specs.Assembled.{Assembled}
use Rattle.l6_asm.specs.Spells.{Spells, IsUnspelled}
use Rattle.l6_device.specs.declared.fault.Part.TheVariants.{Deck, Image, Input}
use Rattle.l6_device.specs.declared.fault.RunFault.{RunFault}
use Rattle.l6_device.specs.declared.fault.RunFault.TheVariants.{TooLong, Asm, Load}

-- a whole run of the context, which is the one under the rule, ends in a state with this ending and
-- this printout
pub record RunPrints (rule : Rule) (context : RunContext) (ending : Ending)
    (text : List ℕ) : Type 0 where
  pub final : State
  pub ends : EndsIn context final
  pub by_rule : EndsBy rule context final
  pub ended : ending ≡ ending_of final.ending
  pub printed : text ≡ printout final

-- the deck is run with the input under these options, the run ends so, and this is its printout: both
-- are no longer than they may be, the deck spells a program, and so the run of the program prints,
-- under the store's rule
pub record Prints (options : OptionValues) (deck input : List ℕ) (ending : Ending)
    (text : List ℕ) : Type 0 where
  pub fits : length deck ≤ most_deck_bytes
  pub input_fits : length input ≤ most_input
  pub assembly : Assembled
  pub spelled : Spells deck assembly
  pub run : RunPrints store_rule (context_under options input assembly.program) ending text

-- why a deck is not run: it or its input is too long, or it spells no program
abbrev pub RefusesDeck : List ℕ → List ℕ → RunFault → Type 0
RefusesDeck deck input (TooLong Deck) = most_deck_bytes < length deck
RefusesDeck deck input (TooLong Input) =
    (length deck ≤ most_deck_bytes) × (most_input < length input)
RefusesDeck deck input (Asm fault) =
    (length deck ≤ most_deck_bytes) × (length input ≤ most_input)
    × IsSomeAnd (assembly_fault fault) (IsUnspelled deck)
RefusesDeck deck input other = ⊥

-- the image of this text is run with the input under these options, the run ends so, and this is its
-- printout: both are no longer than they may be, the text is that of a program's image, and so the
-- run of the program prints, under the store's rule
pub record PrintsLoaded (options : OptionValues) (image input : List ℕ) (ending : Ending)
    (text : List ℕ) : Type 0 where
  pub fits : length image ≤ most_bytes
  pub input_fits : length input ≤ most_input
  pub program : List Parts
  pub loaded : IsImageOf image program
  pub run : RunPrints store_rule (context_under options input program) ending text

-- why a text is no image, where out of memory is no such reason
abbrev pub IsNoImage : List ℕ → LoadFault → Type 0
IsNoImage text load.NoMemory = ⊥
IsNoImage text fault = TextHasFault text fault

-- why an image is not run: its text or its input is too long, or the text is that of no image
abbrev pub RefusesImage : List ℕ → List ℕ → RunFault → Type 0
RefusesImage image input (TooLong Image) = most_bytes < length image
RefusesImage image input (TooLong Input) =
    (length image ≤ most_bytes) × (most_input < length input)
RefusesImage image input (Load fault) =
    (length image ≤ most_bytes) × (length input ≤ most_input) × IsNoImage image fault
RefusesImage image input other = ⊥
