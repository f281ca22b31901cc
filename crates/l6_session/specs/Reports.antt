-- What a session says of itself: where one stops, what is displayed, which states are kept, and cards.
use Rattle.std.specs.Prelude.{ℕ, ◌+◌, ◌-◌, ◌&&◌, nat_le, nat_lt, Bool, false, List, [], ◌∷◌, ◌++◌, codes, slice_index_or, Option, None, if◌then◌else◌}
use Rattle.std.specs.List.{enumerate_from, flat_map}
use Rattle.l6_group.specs.declared.label.Label.{Label}
use Rattle.l6_card.specs.Role.{role_of}
use Rattle.l6_marks.specs.Cards.{begun_with, card_line}
use Rattle.l6_word.specs.Lines.{lines_of}
use Rattle.l6_prog.specs.declared.condition.Test.{Test}
use Rattle.l6_steps.specs.State.{Memory}
use Rattle.l6_session.specs.Numerals.{near_statements}
use Rattle.l6_session.specs.SessionState.{SessionState}
use Rattle.l6_history.specs.declared.watched.Watched.{Watched}
use Rattle.l6_session.specs.Texts.{breakpoint_line, chain_line, numbered_line, numbered_watch}

-- the line of a statement that has a breakpoint, which may be a temporary one
abbrev pub said_of : Bool → List ℕ
said_of is_temporary = if is_temporary then codes "tbreak " else codes "break "

abbrev pub break_line : List (Label × ℕ) → List Bool → List (Option Test) → ℕ × Bool → List ℕ
break_line labels temporary tests breakpoint =
    if breakpoint.1
    then breakpoint_line (said_of (slice_index_or temporary breakpoint.0 false)) labels breakpoint.0
    (slice_index_or tests breakpoint.0 None)
    else []

abbrev pub break_lines : List (Label × ℕ) → List Bool → List (Option Test) → List Bool → List ℕ
break_lines labels temporary tests breakpoints =
    flat_map (break_line labels temporary tests) (enumerate_from 0 breakpoints)

-- the lines of chains, numbered from 1 on, with what they read as
abbrev pub chain_lines : Memory → List ℕ → List (List ℕ) → List ℕ
chain_lines memory verb chains =
    flat_map (λ chain. numbered_line memory verb chain.0 chain.1) (enumerate_from 1 chains)

-- the lines of what is watched, numbered from 1 on, with what it reads as
abbrev pub watched_lines : Memory → List Watched → List ℕ
watched_lines memory watched =
    flat_map (λ one. numbered_watch memory one.0 one.1) (enumerate_from 1 watched)

-- where one stops, and what is displayed
abbrev pub stops_lines : List (Label × ℕ) → Memory → SessionState → List ℕ
stops_lines labels memory state =
    break_lines labels state.temporary state.stop.tests state.stop.breakpoints
    ++ watched_lines memory state.stop.watched
    ++ chain_lines memory (codes "display ") state.displayed

abbrev pub or_nothing : List ℕ → List ℕ
or_nothing [] = codes "No breakpoint is set, and nothing is watched or displayed\n"
or_nothing (first ∷ others) = first ∷ others

abbrev pub info_text : List (Label × ℕ) → Memory → SessionState → List ℕ
info_text labels memory state = or_nothing (stops_lines labels memory state)

-- what is displayed at a stop
abbrev pub displayed_line : Memory → List ℕ → List ℕ
displayed_line memory chain = codes "      " ++ chain_line memory chain

abbrev pub displayed_text : Memory → List (List ℕ) → List ℕ
displayed_text memory chains = flat_map (displayed_line memory) chains

-- with a card so many statements have begun, and the last of them is near this one
abbrev pub is_near : ℕ → ℕ → Bool
is_near statement begun =
    nat_lt 0 begun && (nat_le (begun - 1 - near_statements) statement
    && nat_le statement (begun - 1 + near_statements))

-- the lines of the cards near a statement, where so many cards come before them, and so many statements
-- have begun
abbrev pub near_from : ℕ → ℕ → ℕ → List (List ℕ) → List ℕ
near_from statement card begun [] = []
near_from statement card begun (line ∷ lines) =
    (if is_near statement (begun_with (role_of line) begun) then card_line (card + 1) line else [])
    ++ near_from statement (card + 1) (begun_with (role_of line) begun) lines

abbrev pub near_text : List ℕ → ℕ → List ℕ
near_text deck statement = near_from statement 0 0 (lines_of deck)
