-- The pass of a reader through the pieces of a deck, with a builder and the statements.
use Rattle.std.specs.Prelude.{ℕ, ◌+◌, ◌||◌, not, Bool, true, false, List, [], ◌∷◌, ◌++◌, length, nat_lt, Option, Some, None, Result, Ok, Err, if◌then◌else◌}
use Rattle.l6_card.specs.declared.cards.PlacedLabel.{PlacedLabel}
use Rattle.l6_card.specs.Numerals.{most_deck_statements, most_continuations}
use Rattle.l6_card.specs.Statement.{DeckStatementParts, label_on}
use Rattle.l6_card.specs.declared.objection.Objection.{Objection}
use Rattle.l6_card.specs.declared.objection.Reason.{Reason}
use Rattle.l6_card.specs.declared.objection.Reason.TheVariants.{Column, ContinuesNothing, Unfinished, TooManyStatements, TooManyContinuations, TooManyGroups}
use Rattle.l6_card.specs.DeckFault.{DeckFault, form, limit}
use Rattle.l6_card.specs.Card.{Body}
use Rattle.l6_card.specs.Items.{Item}
use Rattle.l6_card.specs.Objection.{objects, card_objects, item_objects, label_reason}
use Rattle.l6_card.specs.Order.{reason_at}
use Rattle.l6_card.specs.inner.StatementBuilder.{StatementBuilder, new_builder, is_whole, statement_from, with_item, expected_in}
use Rattle.l6_card.specs.Fault.{and_then, column_objects}
use Rattle.l6_card.specs.Pieces.{Piece, ends, begins, continues, unknown_card, label, item, pieces_of}

-- what is known from the pieces so far: the statements that are complete; whether one has begun
-- since, and of that one the label, the builder, the body of its last card, and how many cards continue
-- it
pub record Stage : Type 0 where
  pub statements : List DeckStatementParts
  pub is_open : Bool
  pub label : Option PlacedLabel
  pub builder : StatementBuilder
  pub body : Body
  pub continuations : ℕ

-- nothing is known before the first piece
abbrev pub first_stage : Stage
first_stage =
    record {
      statements = [];
      is_open = false;
      label = None;
      builder = new_builder;
      body = record { card = 0; offset = 0; front = []; columns = [] };
      continuations = 0;
    }

-- the statements once the one that has begun is complete
abbrev pub statements_when_over : Stage → List DeckStatementParts
statements_when_over known =
    if known.is_open then known.statements ++ statement_from known.label known.builder ∷ []
    else known.statements

-- what is known, if the test holds; else the objection
abbrev pub stage_if : Bool → Objection → Stage → Result Stage Objection
stage_if holds objection known = if holds then Ok known else Err objection

-- the statement that has begun is complete: its items must be whole
abbrev pub when_over : Stage → Result Stage Objection
when_over known =
    stage_if (not known.is_open || is_whole known.builder) (card_objects known.body Unfinished)
    (record known {
      statements = statements_when_over known;
      is_open = false;
      label = None;
      builder = new_builder;
    })

-- a card begins a statement, where there is room for one
abbrev pub when_begun : Body → Stage → Result Stage Objection
when_begun body known =
    stage_if (nat_lt (length known.statements) most_deck_statements)
    (card_objects body TooManyStatements)
    (record known {
      is_open = true;
      label = None;
      builder = new_builder;
      body = body;
      continuations = 0;
    })

-- a card continues the statement, if one has begun and not too many cards continue it
abbrev pub when_continued : Body → Stage → Result Stage Objection
when_continued body known =
    if known.is_open then
    stage_if (nat_lt known.continuations most_continuations)
    (column_objects body.card TooManyContinuations)
    (record known { body = body; continuations = known.continuations + 1 })
    else Err (column_objects body.card ContinuesNothing)

-- the statement has a label, if this is one
abbrev pub when_labelled : ℕ → List ℕ → Option PlacedLabel → Stage → Result Stage Objection
when_labelled card columns None known =
    Err (objects card 0 (length columns) (label_reason columns))
when_labelled card columns (Some given) known = Ok (record known { label = Some given })

-- why an item objects whose form is wrong for this reason, or that is past a limit
abbrev pub reason_of : DeckFault → Reason → Reason
reason_of (form card) reason = reason
reason_of (limit card) reason = TooManyGroups

-- the statement's builder is this one after an item, or the item objects
abbrev pub when_built : Item → Result StatementBuilder DeckFault → Stage → Result Stage Objection
when_built i (Ok builder) known = Ok (record known { builder = builder })
when_built i (Err fault) known =
    Err (item_objects known.body i (reason_of fault (reason_at (expected_in known.builder) i)))

-- what is known after a piece, or its objection
abbrev pub after_piece : Stage → Piece → Result Stage Objection
after_piece known ends = when_over known
after_piece known (begins body) = when_begun body known
after_piece known (continues body) = when_continued body known
after_piece known (unknown_card card) = Err (column_objects card Column)
after_piece known (label card columns) =
    when_labelled card columns (label_on card columns) known
after_piece known (item card i) = when_built i (with_item card known.builder i) known

-- what is known after pieces in a row, or the first objection among them
abbrev pub after_pieces : Stage → List Piece → Result Stage Objection
after_pieces known [] = Ok known
after_pieces known (piece ∷ pieces) =
    and_then (after_piece known piece) (λ next. after_pieces next pieces)

-- what is known after the pieces of a deck
abbrev pub pass_of : List ℕ → Result Stage Objection
pass_of deck = after_pieces first_stage (pieces_of deck)
