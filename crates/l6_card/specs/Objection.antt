-- What objects to a deck's being read: the columns of a piece, and the reason.
use Rattle.std.specs.Prelude.{ℕ, ◌+◌, ◌-◌, Bool, true, false, List, [], ◌∷◌, ◌++◌, length, nat_lt, Option, Some, None, if◌then◌else◌}
use Rattle.std.specs.List.{list_all}
use Rattle.std.specs.Option.{option_map}
use Rattle.l6_group.specs.Character.{is_blank}
use Rattle.l6_group.specs.Numerals.{most_label_characters}
use Rattle.l6_card.specs.declared.objection.Objection.{Objection}
use Rattle.l6_card.specs.declared.objection.ReadError.{ReadError}
use Rattle.l6_card.specs.declared.objection.ReadError.TheVariants as error
use Rattle.l6_card.specs.declared.objection.Reason.{Reason}
use Rattle.l6_card.specs.declared.objection.Reason.TheVariants.{LabelTooLong, LabelBarred, TooManyStatements, TooManyContinuations, TooManyGroups}
use Rattle.l6_card.specs.Card.{Body}
use Rattle.l6_card.specs.Items.{Item, group, word, unclosed, unopened}
use Rattle.l6_card.specs.DeckFault.{DeckFault, form, limit}

-- there is too much of something
abbrev pub is_limit : Reason → Bool
is_limit TooManyStatements = true
is_limit TooManyContinuations = true
is_limit TooManyGroups = true
is_limit other = false

-- the fault of a deck that an objection is, its columns and its reason forgotten
abbrev pub fault_in : Objection → DeckFault
fault_in objection =
    if is_limit objection.reason then limit objection.card else form objection.card

-- what an error says of cards: out of memory says nothing of them
abbrev pub objection_in : ReadError → Option Objection
objection_in (error.Objection objection) = Some objection
objection_in error.NoMemory = None

-- the fault of a deck that an error says
abbrev pub fault_met : ReadError → Option DeckFault
fault_met error = option_map fault_in (objection_in error)

-- columns of a card object: those from one on to the one before another, counted from 0
abbrev pub objects : ℕ → ℕ → ℕ → Reason → Objection
objects card from to reason = record { card = card; from = from; to = to; reason = reason }

-- how many blanks columns begin with
abbrev pub count_blanks : List ℕ → ℕ
count_blanks [] = 0
count_blanks (column ∷ columns) = if is_blank column then count_blanks columns + 1 else 0

-- how many columns there are up to the last that is no blank
abbrev pub count_solid : List ℕ → ℕ
count_solid [] = 0
count_solid (column ∷ columns) =
    if list_all is_blank (column ∷ columns) then 0 else count_solid columns + 1

-- the card of this body objects: its columns, but for the blanks at both ends
abbrev pub card_objects : Body → Reason → Objection
card_objects body reason =
    objects body.card (count_blanks (body.front ++ body.columns))
    (count_solid (body.front ++ body.columns)) reason

-- the column of a card that has this offset in the deck
abbrev pub column_at : Body → ℕ → ℕ
column_at body offset = offset + length body.front - body.offset

-- an item on the card of this body objects: a group with its parentheses; a word from its first letter
-- to its last; a `(` that no `)` closes, and all that follows it on the card; a `)` alone
abbrev pub item_objects : Body → Item → Reason → Objection
item_objects body (group offset columns) reason =
    objects body.card (column_at body offset) (column_at body (offset + length columns + 2)) reason
item_objects body (word first end columns) reason =
    objects body.card (column_at body first) (column_at body end) reason
item_objects body (unclosed offset) reason =
    objects body.card (column_at body offset) (length (body.front ++ body.columns)) reason
item_objects body (unopened offset columns) reason =
    objects body.card (column_at body offset) (column_at body (offset + 1)) reason

-- why columns are no label
abbrev pub label_reason : List ℕ → Reason
label_reason columns =
    if nat_lt most_label_characters (length columns) then LabelTooLong else LabelBarred
