-- Labels that no statement names, and statements that no way leads to.
use Rattle.std.specs.Prelude.{◌≡◌, ℕ, zero, suc, ◌+◌, ◌<◌, ◌==◌, not, ◌&&◌, Bool, true, false, List, [], ◌∷◌, ◌++◌, length, is_some, slice_get, Option, Some, None, if◌then◌else◌}
use Rattle.std.specs.List.{flat_map, list_any}
use Rattle.l6_word.specs.Lines.{lines_of}
use Rattle.l6_prog.specs.Statement.{Parts}
use Rattle.l6_prog.specs.Target.{targets_of}
use Rattle.l6_prog.specs.declared.condition.Cond.{Cond}
use Rattle.l6_prog.specs.declared.condition.Cond.TheVariants.{Always}
use Rattle.l6_prog.specs.declared.exit.Exit.{Exit}
use Rattle.l6_prog.specs.declared.exit.Exit.TheVariants.{Next}
use Rattle.l6_card.specs.declared.role.Role.{Role}
use Rattle.l6_card.specs.declared.role.Role.TheVariants.{First}
use Rattle.l6_card.specs.Role.{role_of}
use Rattle.l6_check.specs.Certain.{traps_in}
use Rattle.l6_check.specs.Kept.{Say}
use Rattle.l6_check.specs.Labels.{label_on_line}
use Rattle.l6_check.specs.Warnings.{card_if}
use Rattle.l6_check.specs.declared.finding.Finding.{Finding}
use Rattle.l6_check.specs.declared.findings.Findings.{Findings}
use Rattle.l6_check.specs.declared.reason.Reason.{Reason}
use Rattle.l6_check.specs.declared.reason.Reason.TheVariants.{Warning}
use Rattle.l6_check.specs.declared.reason.WarningReason.TheVariants.{UnnamedLabel, UnreachedStatement}

-- a number is this one
abbrev pub is_number : ℕ → ℕ → Bool
is_number number other = other == number

-- an exit or an operation of the program names the statement of this number
abbrev pub is_named : List Parts → ℕ → Bool
is_named program number = list_any (is_number number) (flat_map targets_of program)

-- with this condition and this exit, a run may go on to the next statement: where the condition does
-- not hold, or where there is no exit
abbrev pub may_go_on : Cond → Exit ℕ → Bool
may_go_on Always Next = true
may_go_on Always other = false
may_go_on condition other = true

-- the statements that may come right after the one of this number: those that it names, and the next one
-- where a run may go on
abbrev pub ways_from : ℕ → Parts → List ℕ
ways_from number statement =
    targets_of statement
    ++ (if may_go_on statement.condition statement.exit then (number + 1) ∷ [] else [])

-- the statement of the second number may come right after that of the first
pub record LeadsTo (program : List Parts) (number next : ℕ) : Type 0 where
  pub statement : Parts
  pub numbered : slice_get program number ≡ Some statement
  pub goes : list_any (is_number next) (ways_from number statement) ≡ true

-- a way of so many steps leads from the first statement to this number
abbrev pub Way : List Parts → ℕ → ℕ → Type 0
Way program zero number = number ≡ 0
Way program (suc steps) number =
    (before : ℕ) × Way program steps before × LeadsTo program before number

-- some way leads to the statement of this number
pub record IsReached (program : List Parts) (number : ℕ) : Type 0 where
  pub steps : ℕ
  pub way : Way program steps number
  pub there : number < length program

-- the answers are yes for just the statements that some way leads to
pub record AreReached (program : List Parts) (reached : ℕ → Bool) : Type 0 where
  pub only : (number : ℕ) → reached number ≡ true → IsReached program number
  pub all : (number : ℕ) → IsReached program number → reached number ≡ true

-- a card of this role begins a statement
abbrev pub is_first : Role → Bool
is_first First = true
is_first other = false

-- the number of the statement after a line, where the next one before it has this number
abbrev pub number_after : ℕ → List ℕ → ℕ
number_after number line = if is_first (role_of line) then number + 1 else number

-- this card, if its line begins the statement of this number, and that passes a test
abbrev pub statement_on : (ℕ → List ℕ → Bool) → ℕ → ℕ → List ℕ → List ℕ
statement_on test number card line =
    if is_first (role_of line) then card_if (test number line) card else []

-- the cards of lines that begin a statement which passes a test: the next statement has this number,
-- and the first line is the card of this number
abbrev pub statements_where : (ℕ → List ℕ → Bool) → ℕ → ℕ → List (List ℕ) → List ℕ
statements_where test number card [] = []
statements_where test number card (line ∷ lines) =
    statement_on test number card line
    ++ statements_where test (number_after number line) (card + 1) lines

-- the card of a statement gives a label, nothing names the statement, and no way leads to it: a label
-- that is fallen into is a name for people
abbrev pub is_unnamed : (ℕ → Bool) → (ℕ → Bool) → ℕ → List ℕ → Bool
is_unnamed named reached number line =
    is_some (label_on_line line) && not (named number) && not (reached number)

-- the card that a finding says to give such a label
abbrev pub unnamed_said : ℕ → Reason → Option ℕ
unnamed_said card (Warning UnnamedLabel) = Some card
unnamed_said card other = None

abbrev pub unnamed_card : Finding → Option ℕ
unnamed_card finding = unnamed_said finding.card finding.reason

-- the card that a finding says to begin such a statement
abbrev pub unreached_said : ℕ → Reason → Option ℕ
unreached_said card (Warning UnreachedStatement) = Some card
unreached_said card other = None

abbrev pub unreached_card : Finding → Option ℕ
unreached_card finding = unreached_said finding.card finding.reason

-- by these answers no way leads to a statement
abbrev pub is_unreached : (ℕ → Bool) → ℕ → List ℕ → Bool
is_unreached reached number line = not (reached number)

-- the findings say just the cards of a deck that give a label which no statement of its program names,
-- and begin a statement to which no way leads
pub record SayUnnamed (program : List Parts) (deck : List ℕ) (findings : Findings) : Type 0 where
  pub reached : ℕ → Bool
  pub are : AreReached program reached
  pub said :
      Say unnamed_card (statements_where (is_unnamed (is_named program) reached) 0 1 (lines_of deck)) findings

-- the cards of a deck that begin a statement of its program which has an operation that always traps
abbrev pub trapping_cards : List Parts → List ℕ → List ℕ
trapping_cards program deck = statements_where (traps_in program) 0 1 (lines_of deck)

-- the findings say just the cards of a deck that begin a statement of its program to which no way leads
pub record SayUnreached (program : List Parts) (deck : List ℕ) (findings : Findings) : Type 0 where
  pub reached : ℕ → Bool
  pub are : AreReached program reached
  pub said : Say unreached_card (statements_where (is_unreached reached) 0 1 (lines_of deck)) findings
