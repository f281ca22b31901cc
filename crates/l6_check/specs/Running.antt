-- Statements that decide nothing, and those that run on into a subroutine.
use Rattle.std.specs.Prelude.{ℕ, ◌+◌, not, ◌&&◌, Bool, true, false, List, [], ◌∷◌, ◌++◌, option_to_list, length, nat_lt, slice_get, Option, Some, None}
use Rattle.std.specs.List.{flat_map, list_any}
use Rattle.l6_prog.specs.Statement.{Parts}
use Rattle.l6_prog.specs.Target.{targets_of_exit, targets_of_operation}
use Rattle.l6_prog.specs.declared.condition.Cond.{Cond}
use Rattle.l6_prog.specs.declared.condition.Cond.TheVariants.{Always}
use Rattle.l6_prog.specs.declared.exit.Exit.{Exit}
use Rattle.l6_prog.specs.declared.exit.Exit.TheVariants.{Next}
use Rattle.l6_prog.specs.declared.operation.Op.{Op}
use Rattle.l6_prog.specs.declared.operation.Op.TheVariants.{Call}
use Rattle.l6_check.specs.declared.finding.Finding.{Finding}
use Rattle.l6_check.specs.declared.reason.Reason.{Reason}
use Rattle.l6_check.specs.declared.reason.Reason.TheVariants.{Warning}
use Rattle.l6_check.specs.declared.reason.WarningReason.TheVariants.{DecidesNothing, RunsOn}
use Rattle.l6_check.specs.Ways.{is_number, statements_where}
use Rattle.l6_word.specs.Lines.{lines_of}

-- there is no condition
abbrev pub is_always : Cond → Bool
is_always Always = true
is_always other = false

-- the next statement follows, and nothing is done before
abbrev pub does_nothing : List (Op ℕ) → Exit ℕ → Bool
does_nothing [] Next = true
does_nothing operations exit = false

-- the statement has a condition, and the next statement follows whether that holds or not
abbrev pub is_idle : Option Parts → Bool
is_idle None = false
is_idle (Some statement) =
    not (is_always statement.condition) && does_nothing statement.operations statement.exit

-- there is no exit
abbrev pub is_next : Exit ℕ → Bool
is_next Next = true
is_next other = false

-- after the statement the next one follows, always
abbrev pub goes_on : Option Parts → Bool
goes_on None = false
goes_on (Some statement) = is_always statement.condition && is_next statement.exit

-- the statement that an operation calls
abbrev pub calls_of_operation : Op ℕ → List ℕ
calls_of_operation (Call called fail) = called ∷ []
calls_of_operation other = []

-- those that it names otherwise, for a failure
abbrev pub labels_of_operation : Op ℕ → List ℕ
labels_of_operation (Call called fail) = option_to_list fail
labels_of_operation other = targets_of_operation other

-- the statements that a statement calls
abbrev pub calls_of : Parts → List ℕ
calls_of statement = flat_map calls_of_operation statement.operations

-- those to which it goes otherwise: by its exit, or for a failure
abbrev pub exits_of : Parts → List ℕ
exits_of statement = flat_map labels_of_operation statement.operations ++ targets_of_exit statement.exit

-- the statement of this number begins a subroutine: some statement calls it, and none goes there otherwise
abbrev pub is_subroutine : (ℕ → Bool) → (ℕ → Bool) → ℕ → Bool
is_subroutine called left number = called number && not (left number)

-- it is one of so many
abbrev pub is_subroutine_of : ℕ → (ℕ → Bool) → (ℕ → Bool) → ℕ → Bool
is_subroutine_of count called left number = nat_lt number count && is_subroutine called left number

abbrev pub is_called : List Parts → ℕ → Bool
is_called program number = list_any (is_number number) (flat_map calls_of program)

abbrev pub is_left_to : List Parts → ℕ → Bool
is_left_to program number = list_any (is_number number) (flat_map exits_of program)

-- the statement of this number decides nothing
abbrev pub idles_at : List Parts → ℕ → List ℕ → Bool
idles_at program number line = is_idle (slice_get program number)

-- by these answers the statement of this number always runs on into a subroutine, which is the next one
abbrev pub runs_on_at : (ℕ → Bool) → (ℕ → Bool) → List Parts → ℕ → List ℕ → Bool
runs_on_at called left program number line =
    goes_on (slice_get program number) && is_subroutine_of (length program) called left (number + 1)

-- the cards of a deck that begin a statement of its program which decides nothing
abbrev pub idle_cards : List Parts → List ℕ → List ℕ
idle_cards program deck = statements_where (idles_at program) 0 1 (lines_of deck)

-- those that begin one which runs on into a subroutine
abbrev pub running_cards : List Parts → List ℕ → List ℕ
running_cards program deck =
    statements_where (runs_on_at (is_called program) (is_left_to program) program) 0 1 (lines_of deck)

-- the card that a finding says to begin one that decides nothing
abbrev pub idle_said : ℕ → Reason → Option ℕ
idle_said card (Warning DecidesNothing) = Some card
idle_said card other = None

abbrev pub idle_card : Finding → Option ℕ
idle_card finding = idle_said finding.card finding.reason

-- the card that it says to begin one that runs on so
abbrev pub running_said : ℕ → Reason → Option ℕ
running_said card (Warning RunsOn) = Some card
running_said card other = None

abbrev pub running_card : Finding → Option ℕ
running_card finding = running_said finding.card finding.reason
