-- Statements as cards give them.
use Rattle.std.specs.Prelude.{ℕ, Bool, ◌&&◌, List, length, Option}
use Rattle.std.specs.Option.{option_map}
use Rattle.l6_prog.specs.Program.{may_have, may_hold}
use Rattle.l6_prog.specs.declared.condition.Cond.{Cond}
use Rattle.l6_prog.specs.declared.condition.Test.{Test}
use Rattle.l6_prog.specs.declared.operation.Op.{Op}
use Rattle.l6_prog.specs.declared.exit.Exit.{Exit}
use Rattle.l6_prog.specs.declared.exit.Exit.TheVariants.{Next, Label as ToLabel, Done, Fail}
use Rattle.l6_group.specs.declared.label.Label.{Label}
use Rattle.l6_group.specs.Label.{label_of}
use Rattle.l6_card.specs.declared.cards.Placed.{Placed}
use Rattle.l6_card.specs.declared.cards.PlacedLabel.{PlacedLabel}

-- what a written statement has: labels with the numbers of their cards, groups with their spans too
pub record DeckStatementParts : Type 0 where
  pub label : Option PlacedLabel
  pub condition : Cond
  pub tests : List (Placed Test)
  pub operations : List (Placed (Op Label))
  pub exit : Exit PlacedLabel

-- the label that columns of this card spell
abbrev pub label_on : ℕ → List ℕ → Option PlacedLabel
label_on card columns =
    option_map (λ given. record { label = given; card = card }) (label_of columns)

-- an exit that is on this card
abbrev pub placed_exit : ℕ → Exit Label → Exit PlacedLabel
placed_exit card Next = Next
placed_exit card (ToLabel label) = ToLabel (record { label = label; card = card })
placed_exit card Done = Done
placed_exit card Fail = Fail

-- the statement may have so many tests and operations, and its condition so many tests
abbrev pub is_fit : DeckStatementParts → Bool
is_fit statement =
    may_hold (length statement.tests) (length statement.operations)
    && may_have statement.condition (length statement.tests)
