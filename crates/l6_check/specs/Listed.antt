-- The findings of a deck, as a list.
use Rattle.std.specs.Prelude.{◌≡◌, ℕ, List, [], ◌∷◌, ◌++◌, codes, Option, Some, None, IsPermutation, if◌then◌else◌}
use Rattle.l6_check.specs.declared.finding.Finding.{Finding}
use Rattle.l6_check.specs.declared.finding.Severity.{Severity}
use Rattle.l6_check.specs.declared.finding.Severity.TheVariants.{Error, Warning as Warns}
use Rattle.l6_check.specs.declared.reason.Reason.{Reason}
use Rattle.l6_check.specs.declared.reason.Reason.TheVariants.{Form, Limit, TwiceLabelled, NoLabel, Warning}
use Rattle.l6_check.specs.declared.report.Report.{Report}
use Rattle.l6_check.specs.declared.report.ProgramWarnings.{ProgramWarnings}
use Rattle.l6_check.specs.Counted.{is_in_detail, AreByCards, AreByColumns}
use Rattle.l6_check.specs.Report.{IsReport}

-- the first error of a report, unless one of its others is the same in detail
abbrev pub first_of : Report → Option Finding → List Finding
first_of report None = []
first_of report (Some first) = if is_in_detail report first then [] else first ∷ []

-- the warnings of a program that are kept
abbrev pub warnings_of : ProgramWarnings → List Finding
warnings_of program =
    let statements = program.statements in
    statements.conditions.kept.items ++ (statements.unnamed.kept.items ++ (statements.unreached.kept.items
    ++ (statements.trapping.kept.items ++ (statements.idle.kept.items ++ (statements.running.kept.items
    ++ program.fields.kept.items)))))

-- the findings that a report keeps
abbrev pub kept_of : Report → List Finding
kept_of report =
    (((((first_of report report.first ++ report.reading.kept.items) ++ report.twice.kept.items)
    ++ report.missing.kept.items) ++ report.cards.columns.kept.items)
    ++ report.cards.image.kept.items) ++ warnings_of report.program

-- findings are these, and no others, by their cards, and those of a card by their columns
pub record AreSorted (kept findings : List Finding) : Type 0 where
  pub same : IsPermutation kept findings
  pub cards : AreByCards findings
  pub columns : AreByColumns findings

-- findings are those that the report of a deck keeps
pub record AreAllOf (deck : List ℕ) (findings : List Finding) : Type 0 where
  pub report : Report
  pub is : IsReport deck report
  pub sorted : AreSorted (kept_of report) findings

-- how bad a finding with this reason is
abbrev pub severity_of : Reason → Severity
severity_of (Warning _) = Warns
severity_of (Form reason) = Error
severity_of (Limit reason) = Error
severity_of (TwiceLabelled card) = Error
severity_of (NoLabel missing) = Error
