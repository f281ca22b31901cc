-- The fault of a deck: the first objection among its pieces.
use Rattle.std.specs.Prelude.{ℕ, ◌+◌, not, List, [], ◌∷◌, ◌++◌, length, nat_lt, Option, Some, None, Result, Ok, Err, if◌then◌else◌}
use Rattle.std.specs.Option.{is_some, option_map}
use Rattle.l6_card.specs.declared.objection.Objection.{Objection}
use Rattle.l6_card.specs.declared.objection.Reason.{Reason}
use Rattle.l6_card.specs.declared.objection.Reason.TheVariants.{Column, ContinuesNothing, Unfinished, TooManyStatements, TooManyContinuations, TooManyGroups}
use Rattle.l6_card.specs.Numerals.{most_deck_statements, most_continuations}
use Rattle.l6_card.specs.Card.{Body}
use Rattle.l6_card.specs.Items.{Item, PlacedItem, item_on}
use Rattle.l6_card.specs.Statement.{label_on}
use Rattle.l6_card.specs.DeckFault.{DeckFault}
use Rattle.l6_card.specs.Objection.{fault_in, objects, card_objects, item_objects, label_reason}
use Rattle.l6_card.specs.Order.{expected_after, reason_at}
use Rattle.l6_card.specs.Form.{are_whole, are_prefix, are_within_limits}
use Rattle.l6_card.specs.Pieces.{Piece, ends, begins, continues, unknown_card, label, item, pieces_of}

-- what is known of a statement that has begun: its items so far, the body of its last card, and how many
-- cards continue it
pub record Begun : Type 0 where
  pub items : List PlacedItem
  pub body : Body
  pub continuations : ℕ

-- what is known from the pieces so far: how many statements are complete, and the one that has
-- begun since
pub record Known : Type 0 where
  pub over : ℕ
  pub begun : Option Begun

-- nothing is known before the first piece
abbrev pub nothing_known : Known
nothing_known = record { over = 0; begun = None }

-- the statement that has begun is complete: its items must be whole
abbrev pub when_over : ℕ → Option Begun → Result Known Objection
when_over over None = Ok (record { over = over; begun = None })
when_over over (Some statement) =
    if are_whole statement.items then Ok (record { over = over + 1; begun = None })
    else Err (card_objects statement.body Unfinished)

-- a card begins a statement, where there is room for one
abbrev pub when_begun : Body → ℕ → Result Known Objection
when_begun body over =
    if nat_lt over most_deck_statements then
    Ok (record {
      over = over;
      begun = Some (record { items = []; body = body; continuations = 0 });
    })
    else Err (card_objects body TooManyStatements)

-- column 1 of a card objects
abbrev pub column_objects : ℕ → Reason → Objection
column_objects card reason = objects card 0 1 reason

-- a card continues the statement, if one has begun and not too many cards continue it
abbrev pub when_continued : Body → ℕ → Option Begun → Result Known Objection
when_continued body over None = Err (column_objects body.card ContinuesNothing)
when_continued body over (Some statement) =
    if nat_lt statement.continuations most_continuations then
    Ok (record {
      over = over;
      begun = Some (record statement {
        body = body;
        continuations = statement.continuations + 1;
      });
    })
    else Err (column_objects body.card TooManyContinuations)

-- a card gives its statement a label, which the columns must spell
abbrev pub when_labelled : ℕ → List ℕ → Known → Result Known Objection
when_labelled card columns known =
    if is_some (label_on card columns) then Ok known
    else Err (objects card 0 (length columns) (label_reason columns))

-- the statement has these items now, of which this is the last: they must be a prefix of a statement,
-- within the limits
abbrev pub when_items : Item → ℕ → Begun → List PlacedItem → Result Known Objection
when_items i over statement items =
    if not (are_prefix items) then
    Err (item_objects statement.body i (reason_at (expected_after statement.items) i))
    else if not (are_within_limits items) then
    Err (item_objects statement.body i TooManyGroups)
    else Ok (record { over = over; begun = Some (record statement { items = items }) })

-- a card has one more item of the statement; no piece of a deck has one where none has begun
abbrev pub when_item : ℕ → Item → ℕ → Option Begun → Result Known Objection
when_item card i over None = Err (column_objects card ContinuesNothing)
when_item card i over (Some statement) =
    when_items i over statement (statement.items ++ item_on card i ∷ [])

-- what is known after a piece, or its objection
abbrev pub after_piece : Known → Piece → Result Known Objection
after_piece known ends = when_over known.over known.begun
after_piece known (begins body) = when_begun body known.over
after_piece known (continues body) = when_continued body known.over known.begun
after_piece known (unknown_card card) = Err (column_objects card Column)
after_piece known (label card columns) = when_labelled card columns known
after_piece known (item card i) = when_item card i known.over known.begun

-- a step after another one, unless that met an objection
abbrev pub and_then : {A : Type 0} → Result A Objection → (A → Result A Objection) →
    Result A Objection
and_then (Ok known) step = step known
and_then (Err objection) step = Err objection

-- what is known after pieces in a row, or the first objection among them
abbrev pub after_pieces : Known → List Piece → Result Known Objection
after_pieces known [] = Ok known
after_pieces known (piece ∷ pieces) =
    and_then (after_piece known piece) (λ next. after_pieces next pieces)

-- the objection at which a pass stopped
abbrev pub objection_met : {A E : Type 0} → Result A E → Option E
objection_met (Ok known) = None
objection_met (Err objection) = Some objection

-- the objection to a deck, if there is one: the first of its pieces
abbrev pub objection_to : List ℕ → Option Objection
objection_to deck = objection_met (after_pieces nothing_known (pieces_of deck))

-- the fault of a deck, if it has one: what is left of the objection to it
abbrev pub fault_of : List ℕ → Option DeckFault
fault_of deck = option_map fault_in (objection_to deck)
