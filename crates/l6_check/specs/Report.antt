-- What a report says of a deck.
use Rattle.std.specs.Prelude.{◌≡◌, ℕ, List, Option, Some, None}
use Rattle.l6_word.specs.Lines.{lines_of}
use Rattle.l6_prog.specs.Statement.{Parts}
use Rattle.l6_check.specs.declared.finding.Finding.{Finding}
use Rattle.l6_check.specs.declared.report.Report.{Report}
use Rattle.l6_check.specs.declared.cards.CardWarnings.{CardWarnings}
use Rattle.l6_check.specs.declared.report.ProgramWarnings.{ProgramWarnings}
use Rattle.l6_check.specs.Kept.{HasNone, Say, AreOf}
use Rattle.l6_check.specs.OnCard.{AreOnTheirCards}
use Rattle.l6_check.specs.Faults.{fault_of_finding}
use Rattle.l6_check.specs.Explains.{Explains}
use Rattle.l6_check.specs.Statements.{statement_faults, statement_objections}
use Rattle.l6_check.specs.Labels.{twice_labelled, twice_said}
use Rattle.l6_check.specs.Indented.{labels_meant}
use Rattle.l6_check.specs.Missing.{SayMissing}
use Rattle.l6_check.specs.Warnings.{condition_card, condition_cards, past_card, past_cards}
use Rattle.l6_check.specs.JobText.{image_card, image_cards, lines_to_mark}
use Rattle.l6_check.specs.Certain.{trapping_card}
use Rattle.l6_check.specs.Running.{idle_card, idle_cards, running_card, running_cards}
use Rattle.l6_check.specs.Ways.{trapping_cards, SayUnnamed, SayUnreached}
use Rattle.l6_check.specs.Fields.{field_said, undefined_fields}
use Rattle.l6_check.specs.Verdict.{IsProgramOf, IsErrorOf}

-- the report has no errors
pub record HasNoErrors (report : Report) : Type 0 where
  pub first : report.first ≡ None
  pub reading : HasNone report.reading
  pub twice : HasNone report.twice
  pub missing : HasNone report.missing

-- the warnings are those of a deck that spells this program: of labels that are spelled as conditions
-- are, of labels that no statement names, of statements that no way leads to, of operations that always
-- trap, and of fields that are used and not defined
pub record WarnsOf (deck : List ℕ) (program : List Parts) (warnings : ProgramWarnings) : Type 0 where
  pub conditions : Say condition_card (condition_cards deck) warnings.statements.conditions
  pub unnamed : SayUnnamed program deck warnings.statements.unnamed
  pub unreached : SayUnreached program deck warnings.statements.unreached
  pub trapping : Say trapping_card (trapping_cards program deck) warnings.statements.trapping
  pub idle : Say idle_card (idle_cards program deck) warnings.statements.idle
  pub running : Say running_card (running_cards program deck) warnings.statements.running
  pub fields : Say field_said (undefined_fields program) warnings.fields

-- the report has no errors, and the warnings of the program that the deck spells
pub record IsClean (deck : List ℕ) (report : Report) : Type 0 where
  pub program : List Parts
  pub spelled : IsProgramOf deck program
  pub none : HasNoErrors report
  pub warnings : WarnsOf deck program report.program

-- the report has this first error and these warnings, and: the errors of each statement as a deck of its
-- own, their cards, their columns and the kinds of their reasons; each card whose label an earlier card gives,
-- with that card; and each label that is named and that no card gives or means to give
pub record HasErrors (deck : List ℕ) (first : Finding) (cards : CardWarnings) (report : Report) :
    Type 0 where
  pub first_is : report.first ≡ Some first
  pub reading : Say fault_of_finding (statement_faults deck) report.reading
  pub explained : AreOf Explains (statement_objections deck) report.reading
  pub reading_places : AreOnTheirCards report.reading
  pub twice : Say twice_said (twice_labelled deck) report.twice
  pub twice_places : AreOnTheirCards report.twice
  pub missing : SayMissing (labels_meant deck) deck report.missing
  pub missing_places : AreOnTheirCards report.missing
  pub cards_are : report.cards ≡ cards

-- the report of a deck whose first error is this; its errors are those of the text
pub record IsFaulty (deck text : List ℕ) (first : Finding) (report : Report) : Type 0 where
  pub error : IsErrorOf deck first
  pub others : HasErrors text first report.cards report

-- the errors of a report whose first error is this
abbrev pub ErrorsOf : List ℕ → List ℕ → Report → Option Finding → Type 0
ErrorsOf deck text report None = IsClean deck report
ErrorsOf deck text report (Some first) = IsFaulty deck text first report

-- the warnings are those of the cards of a text: of what is past the columns that count, and of a beginning as
-- that of an image
pub record WarnsOfCards (text : List ℕ) (warnings : CardWarnings) : Type 0 where
  pub columns : Say past_card (past_cards text) warnings.columns
  pub image : Say image_card (image_cards text) warnings.image

-- the report of a deck: its first error, and then the others, or that it spells a program, and then the
-- warnings of that; and the warnings of its cards. The text is the deck up to its first line that reads as one
-- which separates the parts of a job: what follows that is not looked at.
pub record IsReport (deck : List ℕ) (report : Report) : Type 0 where
  pub text : List ℕ
  pub lines : lines_of text ≡ lines_to_mark (lines_of deck)
  pub errors : ErrorsOf deck text report report.first
  pub cards : WarnsOfCards text report.cards
