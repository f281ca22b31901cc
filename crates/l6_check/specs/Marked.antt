-- Which columns are marked where a word objects, or a group that nothing closes.
use Rattle.std.specs.Prelude.{ℕ, ◌+◌, ◌==◌, not, ◌&&◌, Bool, true, false, List, [], ◌∷◌, drop, length, take, if◌then◌else◌}
use Rattle.std.specs.List.{list_all}
use Rattle.std.specs.Str.{byte}
use Rattle.l6_group.specs.Character.{is_blank, is_letter}
use Rattle.l6_card.specs.Card.{run_of}
use Rattle.l6_check.specs.Faults.{on_card}
use Rattle.l6_check.specs.Statements.{spell_then}
use Rattle.l6_check.specs.Warnings.{blanks_before, gives_condition}
use Rattle.l6_check.specs.declared.finding.Span.{Span}

-- the column closes a group; the column is no blank
abbrev pub closes : ℕ → Bool
closes column = column == byte ")"

abbrev pub is_solid : ℕ → Bool
is_solid column = not (is_blank column)

-- how many columns there are up to the last of a kind, with it, or so many if there is none; so many columns
-- are in front of these
abbrev pub past_last : (ℕ → Bool) → ℕ → ℕ → List ℕ → ℕ
past_last holds otherwise front [] = otherwise
past_last holds otherwise front (column ∷ columns) =
    past_last holds (if holds column then front + 1 else otherwise) (front + 1) columns

-- how many columns are before the body of a card: its label, or column 1
abbrev pub body_start : List ℕ → ℕ
body_start [] = 0
body_start (column ∷ columns) =
    if is_letter column then length (run_of (column ∷ columns)) else 1

-- these columns from one on, without the blanks at both ends
abbrev pub solid_from : ℕ → List ℕ → Span
solid_from start word = on_card (start + blanks_before word) (start + past_last is_solid 0 0 word)

-- the word from one column on; or the piece, if there are only blanks
abbrev pub word_or : Span → ℕ → List ℕ → Span
word_or piece start word = if list_all is_blank word then piece else solid_from start word

-- the word in front of a piece of a card's columns: it begins after the last group before the piece, or else
-- with the body of the card
abbrev pub word_in_front : Span → ℕ → List ℕ → Span
word_in_front piece start front = word_or piece start (drop start front)

abbrev pub word_before : List ℕ → Span → Span
word_before columns piece =
    let front = take piece.from columns in
    word_in_front piece (past_last closes (body_start columns) 0 front) front

-- the label that columns begin with, where it is marked in place of a piece
abbrev pub label_or : Bool → List ℕ → Span → Span
label_or true columns piece = on_card 0 (body_start columns)
label_or false columns piece = piece

-- the label of a card, if it is spelled as a condition and a piece of the card begins with THEN: the blank in
-- column 1 is missing; else the piece
abbrev pub condition_or : List ℕ → Span → Span
condition_or columns piece =
    label_or (gives_condition columns && spell_then (drop piece.from columns)) columns piece

-- how many columns there are before the first `(`
abbrev pub next_open : List ℕ → ℕ
next_open [] = 0
next_open (column ∷ columns) = if column == byte "(" then 0 else next_open columns + 1

-- the group that begins at a piece of a card's columns, up to the next `(`, without the blanks before that
abbrev pub unclosed_group : List ℕ → Span → Span
unclosed_group columns piece =
    let inside = drop (piece.from + 1) columns in
    on_card piece.from (piece.from + 1 + past_last is_solid 0 0 (take (next_open inside) inside))
