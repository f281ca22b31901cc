-- What the items of a statement say.
use Rattle.std.specs.Prelude.{◌≡◌, ◌⊎◌, ℕ, List, [], ◌∷◌, ◌++◌, map, Option, Some, None}
use Rattle.std.specs.Option.{option_map}
use Rattle.l6_prog.specs.declared.condition.Cond.TheVariants.{Always}
use Rattle.l6_prog.specs.declared.condition.Test.{Test}
use Rattle.l6_prog.specs.declared.operation.Op.{Op}
use Rattle.l6_prog.specs.declared.exit.Exit.{Exit}
use Rattle.l6_prog.specs.declared.exit.Exit.TheVariants.{Next}
use Rattle.l6_group.specs.declared.label.Label.{Label}
use Rattle.l6_group.specs.Operation.{operation_of}
use Rattle.l6_group.specs.Test.{test_of}
use Rattle.l6_card.specs.declared.cards.Placed.{Placed}
use Rattle.l6_card.specs.declared.cards.PlacedLabel.{PlacedLabel}
use Rattle.l6_card.specs.Items.{Item, group, PlacedItem}
use Rattle.l6_card.specs.Statement.{DeckStatementParts, placed_exit}
use Rattle.l6_card.specs.Spans.{group_span}
use Rattle.l6_card.specs.Form.{exit_in, condition_in, following_then}

-- what a group spells by a reading, on this card and at the group's span
abbrev pub read_on : {A : Type 0} → (List ℕ → Option A) → ℕ → Item → Option (Placed A)
read_on read card (group offset columns) =
    option_map (λ reading. record {
      reading = reading;
      card = card;
      span = group_span offset columns;
    }) (read columns)
read_on read card _ = None

-- the operation that an item spells
abbrev pub operation_on : PlacedItem → Option (Placed (Op Label))
operation_on i = read_on operation_of i.card i.what

-- the test that an item spells
abbrev pub test_on : PlacedItem → Option (Placed Test)
test_on i = read_on test_of i.card i.what

-- the exit that a last item spells, on its card; where there is none, the next statement follows
abbrev pub exit_on : List PlacedItem → Option (Exit PlacedLabel)
exit_on [] = Some Next
exit_on (i ∷ []) = option_map (placed_exit i.card) (exit_in i.what)
exit_on _ = None

-- the items are the groups of the statement's operations, and then its exit
pub record DenoteOperationsAndExit (items : List PlacedItem)
    (statement : DeckStatementParts) : Type 0 where
  pub groups : List PlacedItem
  pub last : List PlacedItem
  pub in_order : items ≡ groups ++ last
  pub operations : map operation_on groups ≡ map Some statement.operations
  pub exit : exit_on last ≡ Some statement.exit

-- the items say a statement without a condition
pub record DenotePlain (items : List PlacedItem) (statement : DeckStatementParts) : Type 0 where
  pub condition : statement.condition ≡ Always
  pub tests : statement.tests ≡ []
  pub denote : DenoteOperationsAndExit items statement

-- the items say a statement with a condition: its word, the groups of its tests, THEN, and what
-- follows that
pub record DenoteConditional (items : List PlacedItem) (statement : DeckStatementParts) : Type 0 where
  pub first : PlacedItem
  pub groups : List PlacedItem
  pub others : List PlacedItem
  pub following : List PlacedItem
  pub in_order : items ≡ first ∷ groups ++ others
  pub condition : condition_in first.what ≡ Some statement.condition
  pub tests : map test_on groups ≡ map Some statement.tests
  pub leads : following_then others ≡ Some following
  pub denote : DenoteOperationsAndExit following statement

-- the items say the statement, its label apart
abbrev pub ItemsDenote : List PlacedItem → DeckStatementParts → Type 0
ItemsDenote items statement = DenotePlain items statement ⊎ DenoteConditional items statement
