-- What a count of errors says of a deck.
use Rattle.std.specs.Prelude.{◌≡◌, ℕ, ◌+◌, ◌-◌, ◌^◌, ◌<◌, ◌≤◌, ◌==◌, ◌&&◌, ◌||◌, min, max, Bool, true, false, List, length, slice_index_or, Option, Some, None, if◌then◌else◌}
use Rattle.std.specs.List.{list_any}
use Rattle.std.specs.List.Sorted.{IsNonDecreasingBy}
use Rattle.l6_asm.specs.Assembled.{Assembled}
use Rattle.l6_asm.specs.Spells.{SpellsJust, SpellsNothing}
use Rattle.l6_check.specs.declared.finding.Finding.{Finding}
use Rattle.l6_check.specs.declared.findings.Findings.{Findings}
use Rattle.l6_check.specs.declared.reason.Reason.{Reason}
use Rattle.l6_check.specs.declared.reason.Reason.TheVariants.{Form, Limit, TwiceLabelled, NoLabel}
use Rattle.l6_check.specs.declared.report.Report.{Report}
use Rattle.l6_check.specs.Report.{IsReport}

-- the sum of two counts, or the greatest count that there is
abbrev pub added : ℕ → ℕ → ℕ
added one other = min (one + other) (2 ^ 32 - 1)

-- both reasons are of one kind of error
abbrev pub are_of_one_kind : Reason → Reason → Bool
are_of_one_kind (Form one) (Form other) = true
are_of_one_kind (Limit one) (Limit other) = true
are_of_one_kind (TwiceLabelled one) (TwiceLabelled other) = true
are_of_one_kind (NoLabel one) (NoLabel other) = true
are_of_one_kind one other = false

-- one of the findings that are kept is on the card of this one, and of its kind
abbrev pub has_like : Findings → Finding → Bool
has_like findings first =
    list_any (λ (one : Finding). one.card == first.card && are_of_one_kind one.reason first.reason)
    findings.kept.items

-- one of the errors of a report is its first one in detail
abbrev pub is_in_detail : Report → Finding → Bool
is_in_detail report first =
    has_like report.reading first || has_like report.twice first || has_like report.missing first

-- how many errors a report has: those of its lists, and its first one, if that is not among them
abbrev pub errors_of : Report → Option Finding → ℕ
errors_of report None = 0
errors_of report (Some first) =
    let found = added (added report.reading.count report.twice.count) report.missing.count in
    if is_in_detail report first then max found 1 else added found 1

-- how many warnings a report has: those of its lists
abbrev pub warnings_of : Report → ℕ
warnings_of report =
    let cards = report.cards in
    let program = report.program in
    let statements = program.statements in
    let of_labels = added (added (added cards.columns.count cards.image.count) statements.conditions.count) statements.unnamed.count in
    let of_ways = added (added of_labels statements.unreached.count) statements.trapping.count in
    added (added (added of_ways statements.idle.count) statements.running.count) program.fields.count

-- findings are in the order of their cards
abbrev pub AreByCards : List Finding → Type 0
AreByCards findings = IsNonDecreasingBy (λ (one : Finding). one.card) findings

-- and those side by side that are on one card, in the order of their first columns
abbrev pub AreByColumns : List Finding → Type 0
AreByColumns findings =
    (k : ℕ) (other : Finding) → k + 1 < length findings →
    (slice_index_or findings k other).card ≡ (slice_index_or findings (k + 1) other).card →
    (slice_index_or findings k other).span.from ≤ (slice_index_or findings (k + 1) other).span.from

-- there are no errors, and the deck spells a program; or there are some, and it spells none
pub record CountsErrors (deck : List ℕ) (errors : ℕ) : Type 0 where
  pub none : errors ≡ 0 → (assembly : Assembled) × SpellsJust deck assembly
  pub some : 0 < errors → SpellsNothing deck

-- the errors are as many as those of the report of a deck
pub record IsCounted (deck : List ℕ) (errors : ℕ) : Type 0 where
  pub report : Report
  pub is : IsReport deck report
  pub counted : errors ≡ errors_of report report.first
