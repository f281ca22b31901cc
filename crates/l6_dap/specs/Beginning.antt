-- How a run begins that is launched.
use Rattle.std.specs.Prelude.{◌≡◌, ℕ, List, length}
use Rattle.l6_asm.specs.Assembled.{Assembled}
use Rattle.l6_asm.specs.Spells.{SpellsJust}
use Rattle.l6_machine.specs.Options.{OptionValues, context_under}
use Rattle.l6_session.specs.Names.{Names}
use Rattle.l6_session.specs.SessionState.{first_session_state}
use Rattle.l6_session.specs.inner.SessionRun.{SessionRun}

-- a session at the start of the run of the program that a deck spells, with an input and under options; statements are
-- named by the labels and the cards of that deck
pub record BeginsWith (options : OptionValues) (deck input : List ℕ) (run : SessionRun) (names : Names) : Type 0 where
  pub assembly : Assembled
  pub spells : SpellsJust deck assembly
  pub context : run.context ≡ context_under options input assembly.program
  pub start : run.state ≡ first_session_state run.context
  pub named : names ≡ record {
    labels = assembly.labels;
    deck = deck;
    statements = length assembly.program;
  }
