-- Builders: a builder is what the items of a statement so far make of it, as a reader takes them.
use Rattle.std.specs.Prelude.{ℕ, ◌==◌, ◌&&◌, Bool, true, false, List, [], ◌∷◌, ◌++◌, length, nat_lt, Option, Some, None, Result, Ok, Err, if◌then◌else◌}
use Rattle.l6_prog.specs.Numerals.{most_tests, most_operations}
use Rattle.l6_prog.specs.declared.condition.Cond.{Cond}
use Rattle.l6_prog.specs.declared.condition.Cond.TheVariants.{Always, If, Not}
use Rattle.l6_prog.specs.declared.condition.Test.{Test}
use Rattle.l6_prog.specs.declared.operation.Op.{Op}
use Rattle.l6_prog.specs.declared.exit.Exit.{Exit}
use Rattle.l6_prog.specs.declared.exit.Exit.TheVariants.{Next}
use Rattle.l6_group.specs.declared.label.Label.{Label}
use Rattle.l6_group.specs.Character.{spelled}
use Rattle.l6_group.specs.Operation.{operation_of}
use Rattle.l6_group.specs.Test.{test_of}
use Rattle.l6_group.specs.Word.{exit_from, condition_from, after_then}
use Rattle.l6_card.specs.declared.cards.Placed.{Placed}
use Rattle.l6_card.specs.declared.cards.PlacedLabel.{PlacedLabel}
use Rattle.l6_card.specs.declared.span.Span.{Span}
use Rattle.l6_card.specs.DeckFault.{DeckFault, form, limit}
use Rattle.l6_card.specs.Order.{Expected, operation_or_exit, first_test, test_or_then, none_after}
use Rattle.l6_card.specs.Spans.{group_span}
use Rattle.l6_card.specs.Items.{Item, group, word, PlacedItem}
use Rattle.l6_card.specs.Statement.{DeckStatementParts, placed_exit}

-- how far the items of a statement have come: there is none; a word, which is this condition where
-- a group follows, and else an exit; a condition and its tests, and THEN must follow; operations
-- may follow, and an exit; the exit is there, and nothing may follow
pub data Phase : Type 0 where
  New : Phase
  Worded : Cond → Phase
  Tested : Phase
  Open : Phase
  Closed : Phase

-- how far the items of a statement have come, and what they make of it
pub record StatementBuilder : Type 0 where
  pub phase : Phase
  pub condition : Cond
  pub tests : List (Placed Test)
  pub operations : List (Placed (Op Label))
  pub exit : Exit PlacedLabel

-- the builder of a statement without items
abbrev pub new_builder : StatementBuilder
new_builder = record { phase = New; condition = Always; tests = []; operations = []; exit = Next }

-- the items are a whole statement, unless they are a condition and tests that no THEN follows
abbrev pub is_whole_in : Phase → Bool
is_whole_in Tested = false
is_whole_in _ = true

abbrev pub is_whole : StatementBuilder → Bool
is_whole builder = is_whole_in builder.phase

-- what may follow the items
abbrev pub expected_in_phase : Phase → Bool → Expected
expected_in_phase New alone = operation_or_exit
expected_in_phase (Worded condition) alone = first_test
expected_in_phase Tested alone = test_or_then
expected_in_phase Open alone = operation_or_exit
expected_in_phase Closed alone = none_after alone

abbrev pub expected_in : StatementBuilder → Expected
expected_in builder =
    expected_in_phase builder.phase (length builder.tests == 0 && length builder.operations == 0)

-- the statement with this label that the builder makes
abbrev pub statement_from : Option PlacedLabel → StatementBuilder → DeckStatementParts
statement_from label builder =
    record {
      label = label;
      condition = builder.condition;
      tests = builder.tests;
      operations = builder.operations;
      exit = builder.exit;
    }

-- the builder with an operation on this card, at this span, if there is one and room for it
abbrev pub with_operation : ℕ → Span → StatementBuilder → Option (Op Label) →
    Result StatementBuilder DeckFault
with_operation card span builder None = Err (form card)
with_operation card span builder (Some operation) =
    if nat_lt (length builder.operations) most_operations then
    Ok (record builder {
      phase = Open;
      operations =
          builder.operations ++ record { reading = operation; card = card; span = span } ∷ [];
    })
    else Err (limit card)

-- the builder with a test on this card, at this span, under a condition, if there is one and room for
-- it
abbrev pub with_test : ℕ → Span → StatementBuilder → Cond → Option Test →
    Result StatementBuilder DeckFault
with_test card span builder condition None = Err (form card)
with_test card span builder condition (Some test) =
    if nat_lt (length builder.tests) most_tests then
    Ok (record builder {
      phase = Tested;
      condition = condition;
      tests = builder.tests ++ record { reading = test; card = card; span = span } ∷ [];
      exit = Next;
    })
    else Err (limit card)

-- the builder with a further test: IF and NOT have one alone
abbrev pub with_further_test : ℕ → Span → StatementBuilder → Cond → Option Test →
    Result StatementBuilder DeckFault
with_further_test card span builder If test = Err (form card)
with_further_test card span builder Not test = Err (form card)
with_further_test card span builder condition test = with_test card span builder condition test

-- the builder with an exit on this card, in a phase
abbrev pub with_placed : ℕ → StatementBuilder → Phase → Option (Exit Label) →
    Result StatementBuilder DeckFault
with_placed card builder phase None = Err (form card)
with_placed card builder phase (Some given) =
    Ok (record builder { phase = phase; exit = placed_exit card given })

-- the builder with the exit that characters spell
abbrev pub with_exit : ℕ → StatementBuilder → Phase → List ℕ → Result StatementBuilder DeckFault
with_exit card builder phase characters = with_placed card builder phase (exit_from characters)

-- the builder with what follows THEN in the same word: nothing, or the exit
abbrev pub with_rest : ℕ → StatementBuilder → Option (List ℕ) → Result StatementBuilder DeckFault
with_rest card builder None = Err (form card)
with_rest card builder (Some []) = Ok (record builder { phase = Open })
with_rest card builder (Some characters) = with_exit card builder Closed characters

-- the builder with a word that must begin with THEN
abbrev pub with_then : ℕ → StatementBuilder → List ℕ → Result StatementBuilder DeckFault
with_then card builder characters = with_rest card builder (after_then characters)

-- the phase after a first word, which may be a condition
abbrev pub phase_of : Option Cond → Phase
phase_of None = Closed
phase_of (Some condition) = Worded condition

-- the builder with a first word, which is an exit, and may be a condition
abbrev pub with_first : ℕ → StatementBuilder → List ℕ → Result StatementBuilder DeckFault
with_first card builder characters =
    with_exit card builder (phase_of (condition_from characters)) characters

-- the builder with a word, by its phase
abbrev pub with_word_in : Phase → ℕ → StatementBuilder → List ℕ → Result StatementBuilder DeckFault
with_word_in New card builder characters = with_first card builder characters
with_word_in Open card builder characters = with_exit card builder Closed characters
with_word_in Tested card builder characters = with_then card builder characters
with_word_in _ card builder characters = Err (form card)

-- the builder with a group at this span, by its phase
abbrev pub with_group_in : Phase → ℕ → Span → StatementBuilder → List ℕ →
    Result StatementBuilder DeckFault
with_group_in New card span builder columns = with_operation card span builder (operation_of columns)
with_group_in (Worded condition) card span builder columns =
    with_test card span builder condition (test_of columns)
with_group_in Tested card span builder columns =
    with_further_test card span builder builder.condition (test_of columns)
with_group_in Open card span builder columns = with_operation card span builder (operation_of columns)
with_group_in Closed card span builder columns = Err (form card)

-- the builder with a word of these characters
abbrev pub with_characters : ℕ → StatementBuilder → List ℕ → Result StatementBuilder DeckFault
with_characters card builder characters = with_word_in builder.phase card builder characters

-- the builder with an item on this card, or what the item objects
abbrev pub with_item : ℕ → StatementBuilder → Item → Result StatementBuilder DeckFault
with_item card builder (group offset columns) =
    with_group_in builder.phase card (group_span offset columns) builder columns
with_item card builder (word first end columns) = with_characters card builder (spelled columns)
with_item card builder _ = Err (form card)

-- the builder after an item, if it is accepted
abbrev pub builder_then : Result StatementBuilder DeckFault →
    (StatementBuilder → Option StatementBuilder) → Option StatementBuilder
builder_then (Ok builder) step = step builder
builder_then (Err objection) step = None

-- the builder that items make of one, if each is accepted
abbrev pub builder_of : StatementBuilder → List PlacedItem → Option StatementBuilder
builder_of builder [] = Some builder
builder_of builder (i ∷ items) =
    builder_then (with_item i.card builder i.what) (λ next. builder_of next items)
