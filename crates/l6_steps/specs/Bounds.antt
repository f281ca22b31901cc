-- The bounds within which a run keeps its memory.
use Rattle.std.specs.Prelude.{◌≡◌, ℕ, ◌^◌, ◌<◌, true, Option, IfSome}
use Rattle.std.specs.List.{All}
use Rattle.l6_word.specs.Numerals.{word_bits}
use Rattle.l6_word.specs.Window.{Window, is_window}
use Rattle.l6_store.specs.Blocks.{Fits}
use Rattle.l6_steps.specs.State.{Memory}

-- a number is a word
abbrev pub IsWord : ℕ → Type 0
IsWord number = number < 2 ^ word_bits

-- what a name is defined as is a window of a word, where it is defined
abbrev pub IsDefinition : Option Window → Type 0
IsDefinition defined = IfSome defined (λ window. is_window window ≡ true)

-- a memory is within its bounds: what bugs hold and what is saved are words, each definition, in force
-- or saved, is of a window, and the blocks fit a store of so many units, which says that each lies in
-- it and has words of its own
pub record IsWithinBounds (units : ℕ) (memory : Memory) : Type 0 where
  pub bugs : All IsWord memory.bugs
  pub saved_contents : All IsWord memory.saved_contents
  pub definitions : All IsDefinition memory.definitions
  pub saved_definitions : All IsDefinition memory.saved_definitions
  pub blocks : Fits units memory.blocks
