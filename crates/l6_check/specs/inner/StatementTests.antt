-- Tests of the statements that cards begin.
use Rattle.std.specs.Prelude.{ℕ, Bool, List, Option}
use Rattle.l6_word.specs.Lines.{lines_of}
use Rattle.l6_check.specs.declared.finding.Finding.{Finding}
use Rattle.l6_check.specs.declared.findings.Findings.{Findings}
use Rattle.l6_check.specs.declared.ways.StatementTest.{StatementTest}
use Rattle.l6_check.specs.declared.ways.StatementTest.TheVariants.{Condition, Unnamed, Unreached, Trapping, Idle, Running}
use Rattle.l6_check.specs.declared.ways.StatementWarnings.{StatementWarnings}
use Rattle.l6_check.specs.declared.ways.Ways.{Ways}
use Rattle.l6_check.specs.Certain.{trapping_card, traps_in}
use Rattle.l6_check.specs.Kept.{Say}
use Rattle.l6_check.specs.Running.{idle_card, idles_at, running_card, runs_on_at}
use Rattle.l6_check.specs.Warnings.{condition_card, gives_condition}
use Rattle.l6_check.specs.Ways.{is_unnamed, is_unreached, statements_where, unnamed_card, unreached_card}
use Rattle.l6_check.specs.inner.Marks.{is_marked}

-- by these marks the statement of this number, which the card of a line begins, passes the test
abbrev pub passes_at : StatementTest → Ways → ℕ → List ℕ → Bool
passes_at Condition ways number line = gives_condition line
passes_at Unnamed ways number line = is_unnamed (is_marked ways.named.now) (is_marked ways.reached.now) number line
passes_at Unreached ways number line = is_unreached (is_marked ways.reached.now) number line
passes_at Trapping ways number line = traps_in ways.statements.now number line
passes_at Idle ways number line = idles_at ways.statements.now number line
passes_at Running ways number line =
    runs_on_at (is_marked ways.called.now) (is_marked ways.left_to.now) ways.statements.now number line

-- the card that a finding says to begin one that passes it
abbrev pub passed_card : StatementTest → Finding → Option ℕ
passed_card Condition finding = condition_card finding
passed_card Unnamed finding = unnamed_card finding
passed_card Unreached finding = unreached_card finding
passed_card Trapping finding = trapping_card finding
passed_card Idle finding = idle_card finding
passed_card Running finding = running_card finding

-- the findings say the cards of a deck that begin one that passes it
abbrev pub SaysWhere : StatementTest → Ways → List ℕ → Findings → Type 0
SaysWhere test ways deck findings =
    Say (passed_card test) (statements_where (passes_at test ways) 0 1 (lines_of deck)) findings

-- the warnings say the cards that begin statements which pass each of the tests
pub record SayWhere (ways : Ways) (deck : List ℕ) (found : StatementWarnings) : Type 0 where
  pub conditions : SaysWhere Condition ways deck found.conditions
  pub unnamed : SaysWhere Unnamed ways deck found.unnamed
  pub unreached : SaysWhere Unreached ways deck found.unreached
  pub trapping : SaysWhere Trapping ways deck found.trapping
  pub idle : SaysWhere Idle ways deck found.idle
  pub running : SaysWhere Running ways deck found.running
