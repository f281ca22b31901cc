-- What is marked on the cards of a statement: the action of a position, which is the tests of its condition, the
-- group of an operation, or its exit.
use Rattle.std.specs.Prelude.{ℕ, ◌+◌, ◌-◌, ◌==◌, nat_le, ◌&&◌, ◌||◌, not, Bool, true, false, List, [], ◌∷◌, ◌++◌, length, take, drop, map, replicate, codes, slice_get, Option, Some, None, if◌then◌else◌}
use Rattle.std.specs.Str.{byte}
use Rattle.l6_word.specs.Code.{is_blank}
use Rattle.l6_card.specs.Card.{columns_of, run_of}
use Rattle.l6_card.specs.Role.{role_of}
use Rattle.l6_prog.specs.Statement.{Parts}
use Rattle.l6_steps.specs.declared.position.Position.{Position}
use Rattle.l6_marks.specs.Numerals.{card_places}
use Rattle.l6_marks.specs.Cards.{begun_with, card_line, is_statement, statement_with}
use Rattle.l6_marks.specs.declared.ahead.Ahead.{Ahead}

-- so many groups are ahead, and then so many that are marked; or so many, and then the exit, which is
abbrev pub groups : ℕ → ℕ → Ahead
groups unmarked marked =
    record { unmarked = unmarked; marked = marked; marks_exit = false; is_inside = false }

abbrev pub exit : ℕ → Ahead
exit unmarked = record { unmarked = unmarked; marked = 0; marks_exit = true; is_inside = false }

-- what is ahead of the cards of a statement, for each of its actions: first come its tests, then its operations,
-- and then its exit
abbrev pub ahead_in : Parts → ℕ → Ahead
ahead_in parts action =
    if action == 0 then groups 0 (length parts.tests)
    else if nat_le action (length parts.operations) then groups (length parts.tests + (action - 1)) 1
    else exit (length parts.tests + length parts.operations)

abbrev pub ahead_if : Option Parts → ℕ → Ahead
ahead_if None action = groups 0 0
ahead_if (Some parts) action = ahead_in parts action

abbrev pub ahead_of : List Parts → Position → Ahead
ahead_of program at = ahead_if (slice_get program at.statement) at.action

-- a group begins with its left parenthesis
abbrev pub at : Ahead → ℕ → Ahead
at ahead column = record ahead { is_inside = ahead.is_inside || column == byte "(" }

-- and it ends with its right one: then one group less is ahead
abbrev pub without_group : Ahead → Ahead
without_group ahead =
    if ahead.unmarked == 0 then record ahead { marked = ahead.marked - 1; is_inside = false }
    else record ahead { unmarked = ahead.unmarked - 1; is_inside = false }

abbrev pub past : Ahead → ℕ → Ahead
past ahead column = if ahead.is_inside && column == byte ")" then without_group ahead else ahead

abbrev pub past_all : Ahead → List ℕ → Ahead
past_all ahead [] = ahead
past_all ahead (column ∷ columns) = past_all (past (at ahead column) column) columns

-- once no other group is ahead, the columns of groups are marked, or those of the exit that are not blank
abbrev pub is_marked : Ahead → ℕ → Bool
is_marked ahead column =
    if not (ahead.unmarked == 0) then false
    else if ahead.is_inside then not (ahead.marked == 0)
    else ahead.marks_exit && not (is_blank column)

-- below a column that is not marked is a tab, if it is one, or a blank
abbrev pub below : ℕ → ℕ
below column = if column == byte "\t" then byte "\t" else byte " "

abbrev pub sign : Ahead → ℕ → ℕ
sign ahead column = if is_marked ahead column then byte "^" else below column

-- a sign below each column
abbrev pub signs : Ahead → List ℕ → List ℕ
signs ahead [] = []
signs ahead (column ∷ columns) =
    sign (at ahead column) column ∷ signs (past (at ahead column) column) columns

-- how many columns go up to the last one that is marked: one column, and so many that follow it
abbrev pub with_column : Bool → ℕ → ℕ
with_column is_marked count =
    if count == 0 then (if is_marked then 1 else 0) else count + 1

abbrev pub marked_length : Ahead → List ℕ → ℕ
marked_length ahead [] = 0
marked_length ahead (column ∷ columns) =
    with_column (is_marked (at ahead column) column)
    (marked_length (past (at ahead column) column) columns)

-- in front of the groups of a card are its label, or its column 1
abbrev pub length_or_one : List ℕ → ℕ
length_or_one [] = 1
length_or_one (first ∷ label) = length (first ∷ label)

abbrev pub front_length : List ℕ → ℕ
front_length [] = 0
front_length (column ∷ columns) = length_or_one (run_of (column ∷ columns))

abbrev pub front_of : List ℕ → List ℕ
front_of columns = take (front_length columns) columns

abbrev pub body_of : List ℕ → List ℕ
body_of columns = drop (front_length columns) columns

-- the line below a card, which has no sign after the last mark; there is none where nothing is marked
abbrev pub line_below : Ahead → List ℕ → List ℕ → ℕ → List ℕ
line_below ahead front body count =
    if count == 0 then []
    else replicate (card_places + 1) (byte " ") ++ map below front ++ signs ahead (take count body)
    ++ codes "\n"

abbrev pub mark_line : Ahead → List ℕ → List ℕ
mark_line ahead columns =
    line_below ahead (front_of columns) (body_of columns) (marked_length ahead (body_of columns))

-- a card, and the line below it
abbrev pub marked_card : Ahead → ℕ → List ℕ → List ℕ
marked_card ahead card line = card_line card line ++ mark_line ahead (columns_of line)

-- the cards of a statement, where so many cards come before these lines, and so many statements have begun
abbrev pub marked_from : ℕ → Ahead → ℕ → ℕ → List (List ℕ) → List ℕ
marked_from statement ahead card begun [] = []
marked_from statement ahead card begun (line ∷ lines) =
    if is_statement statement (statement_with (role_of line) (begun_with (role_of line) begun))
    then marked_card ahead (card + 1) line
    ++ marked_from statement (past_all ahead (body_of (columns_of line))) (card + 1)
    (begun_with (role_of line) begun) lines
    else marked_from statement ahead (card + 1) (begun_with (role_of line) begun) lines
