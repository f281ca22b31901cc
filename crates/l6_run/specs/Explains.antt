-- What is said of a run of a deck that has trapped.
use Rattle.std.specs.Prelude.{◌≡◌, ℕ, List}
use Rattle.l6_store.specs.Rule.{Rule}
use Rattle.l6_steps.specs.State.{RunContext}
use Rattle.l6_machine.specs.Options.{OptionValues}
use Rattle.l6_marks.specs.Details.{explanation}
use Rattle.l6_run.specs.Prints.{Prints, RunPrints}
use Rattle.l6_run.specs.declared.explained.Explained.{Explained}

-- a run is printed as it always is, and what is said is the explanation of its last state, by the cards of its deck
pub record RunExplains (rule : Rule) (deck : List ℕ) (context : RunContext) (explained : Explained)
    (text : List ℕ) : Type 0 where
  pub run : RunPrints rule context explained.ending text
  pub why : explained.why.items ≡ explanation deck context.program run.final.at run.final.ending

-- the same of the run of a deck with an input, under these options
pub record Explains (options : OptionValues) (deck input : List ℕ) (explained : Explained)
    (text : List ℕ) : Type 0 where
  pub prints : Prints options deck input explained.ending text
  pub why : explained.why.items ≡ explanation deck prints.assembly.program prints.run.final.at
      prints.run.final.ending
