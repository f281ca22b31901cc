-- How a session begins.
use Rattle.std.specs.Prelude.{◌≡◌, ℕ, false, List, length, Option, None, unwrap_or}
use Rattle.l6_asm.specs.Assembled.{Assembled}
use Rattle.l6_asm.specs.Spells.{SpellsJust}
use Rattle.l6_device.specs.JobParts.{commands_of, deck_of, head_of, input_of}
use Rattle.l6_machine.specs.Options.{OptionValues, context_under}
use Rattle.l6_session.specs.DeckSession.{DeckSession}
use Rattle.l6_session.specs.SessionState.{first_session_state}

-- a session at the start of the run of the program that a deck spells, with an input and under the
-- options of the user; statements are named by the labels and the cards of that deck
pub record BeginsWith (options : OptionValues) (deck input : List ℕ) (session : DeckSession) : Type 0 where
  pub assembly : Assembled
  pub spells : SpellsJust deck assembly
  pub context : session.context ≡ context_under options input assembly.program
  pub start : session.state ≡ first_session_state session.context
  pub unlisted : session.listed ≡ None
  pub well : session.refused ≡ false
  pub names : session.names ≡ record {
    labels = assembly.labels;
    deck = deck;
    statements = length assembly.program;
  }

-- a job by its parts
pub record GivenJob : Type 0 where
  pub deck : List ℕ
  pub input : List ℕ
  pub commands : List ℕ

-- the job of a text, in which the bytes of a file for the input take the place of its input, if there
-- is one, and those of a file of commands that of its commands
abbrev pub given_job : List ℕ → Option (List ℕ) → Option (List ℕ) → GivenJob
given_job whole input commands = record {
  deck = deck_of (head_of whole);
  input = unwrap_or input (input_of whole);
  commands = unwrap_or commands (commands_of (head_of whole));
}
