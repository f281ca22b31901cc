-- Cards of a deck that are read as a deck of their own.
use Rattle.std.specs.Option.{option_map}
use Rattle.std.specs.Prelude.{◌≡◌, ℕ, ◌≤◌, ◌++◌, nat_lt, Bool, true, false, List, [], ◌∷◌, Option, None, length, if◌then◌else◌}
use Rattle.l6_card.specs.Numerals.{most_deck_statements}
use Rattle.l6_card.specs.Card.{Body, Card, skipped, plain, labelled, continued, unknown, cards_from}
use Rattle.l6_card.specs.Pieces.{Piece, ends, begins, pieces_of_cards}
use Rattle.l6_card.specs.DeckFault.{DeckFault}
use Rattle.l6_card.specs.Statement.{DeckStatementParts}
use Rattle.l6_card.specs.ReadsAs.{CardsDenote, continuations}
use Rattle.l6_card.specs.declared.objection.Objection.{Objection}
use Rattle.l6_card.specs.Objection.{fault_in}
use Rattle.l6_card.specs.Fault.{Known, nothing_known, and_then, after_pieces, objection_met}

-- the objection to cards that are read as a deck of their own, if there is one
abbrev pub objection_to_cards : List Card → Option Objection
objection_to_cards cards = objection_met (after_pieces nothing_known (pieces_of_cards cards))

-- the objection to lines that are read as a deck of their own, of which the first is the card of this
-- number; where they are in the deck changes nothing of it
abbrev pub objection_to_lines : ℕ → List (List ℕ) → Option Objection
objection_to_lines number lines = objection_to_cards (cards_from number 0 lines)

-- the fault of such lines, if they have one: what is left of the objection to them
abbrev pub fault_of_lines : ℕ → List (List ℕ) → Option DeckFault
fault_of_lines number lines = option_map fault_in (objection_to_lines number lines)

-- lines that are read as a deck of their own, of which the first is the card of this number, say
-- these statements
pub record LinesReadAs (number : ℕ) (lines : List (List ℕ)) (statements : List DeckStatementParts) :
    Type 0 where
  pub begins : continuations (cards_from number 0 lines) ≡ 0
  pub cards : CardsDenote (cards_from number 0 lines) statements
  pub fits : length statements ≤ most_deck_statements

-- the first of the cards, if there is one, belongs to no statement before it
abbrev pub begin_statement : List Card → Bool
begin_statement [] = true
begin_statement (skipped ∷ cards) = false
begin_statement (plain body ∷ cards) = true
begin_statement (labelled columns body ∷ cards) = true
begin_statement (continued body ∷ cards) = false
begin_statement (unknown number ∷ cards) = true

-- a deck can be read in parts, if no statement goes on from one to the next: what is known after the
-- cards of one, read as a deck of their own, is what the next begins with
abbrev pub PartsCompose : Type 0
PartsCompose =
    (part rest : List Card) (known : Known) → begin_statement rest ≡ true →
    after_pieces known (pieces_of_cards (part ++ rest))
    ≡ and_then (after_pieces known (pieces_of_cards part))
    (λ next. after_pieces next (pieces_of_cards rest))

-- the piece begins no statement
abbrev pub begins_none : Piece → Bool
begins_none (begins body) = false
begins_none _ = true

-- none of the pieces begins a statement
abbrev pub begin_none : List Piece → Bool
begin_none [] = true
begin_none (piece ∷ pieces) = if begins_none piece then begin_none pieces else false

-- how many statements are complete before it changes no objection to a statement that there is room for
abbrev pub StatementsObjectAlone : Type 0
StatementsObjectAlone =
    (over : ℕ) (body : Body) (pieces : List Piece) → nat_lt over most_deck_statements ≡ true →
    begin_none pieces ≡ true →
    let alone = ends ∷ begins body ∷ pieces in
    objection_met (after_pieces (record { over = over; begun = None }) alone)
    ≡ objection_met (after_pieces nothing_known alone)
