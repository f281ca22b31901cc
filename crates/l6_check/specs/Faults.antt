-- What findings say of a deck: its faults, and the objections of the reader of cards.
use Rattle.std.specs.Prelude.{ℕ, ◌+◌, ◌-◌, ◌≤◌, min, max, Option, Some, None}
use Rattle.l6_card.specs.DeckFault.{form, limit}
use Rattle.l6_card.specs.Numerals.{card_width}
use Rattle.l6_card.specs.declared.objection.Reason.{Reason as Kind}
use Rattle.l6_card.specs.declared.objection.Reason.TheVariants as kind
use Rattle.l6_asm.specs.AssemblyFault.{AssemblyFault, unread, twice_labelled, no_label}
use Rattle.l6_check.specs.declared.finding.Finding.{Finding}
use Rattle.l6_check.specs.declared.finding.Span.{Span}
use Rattle.l6_check.specs.declared.reason.FormReason.{FormReason}
use Rattle.l6_check.specs.declared.reason.FormReason.TheVariants as no_form
use Rattle.l6_check.specs.declared.reason.LimitReason.{LimitReason}
use Rattle.l6_check.specs.declared.reason.LimitReason.TheVariants as too_much
use Rattle.l6_check.specs.declared.reason.Reason.{Reason}
use Rattle.l6_check.specs.declared.reason.Reason.TheVariants.{Form, Limit, TwiceLabelled, NoLabel, Warning}

-- the fault of a deck that a reason on this card says, if it is one of an error
abbrev pub fault_on : ℕ → Reason → Option AssemblyFault
fault_on card (Form reason) = Some (unread (form card))
fault_on card (Limit reason) = Some (unread (limit card))
fault_on card (TwiceLabelled first) = Some (twice_labelled card)
fault_on card (NoLabel nearest) = Some (no_label card)
fault_on card (Warning _) = None

-- the fault that a finding says
abbrev pub fault_of_finding : Finding → Option AssemblyFault
fault_of_finding finding = fault_on finding.card finding.reason

-- the kind of a reason why something has no reading: what the reader of cards objects for
abbrev pub form_kind : FormReason → Option Kind
form_kind no_form.Column = Some kind.Column
form_kind no_form.ContinuesNothing = Some kind.ContinuesNothing
form_kind no_form.LabelTooLong = Some kind.LabelTooLong
form_kind no_form.LabelBarred = Some kind.LabelBarred
form_kind no_form.Unclosed = Some kind.Unclosed
form_kind no_form.Unopened = Some kind.Unopened
form_kind (no_form.NoOperation fault) = Some kind.NoOperation
form_kind (no_form.NoTest fault) = Some kind.NoTest
form_kind no_form.TestForOperation = Some kind.TestForOperation
form_kind no_form.ConditionInColumn1 = Some kind.TestForOperation
form_kind no_form.OperationForTest = Some kind.OperationForTest
form_kind no_form.ThenMissing = Some kind.ThenMissing
form_kind no_form.SecondTest = Some kind.SecondTest
form_kind no_form.AfterExit = Some kind.AfterExit
form_kind no_form.NoCondition = Some kind.NoCondition
form_kind no_form.NoExit = Some kind.NoExit
form_kind no_form.NoThen = Some kind.NoThen
form_kind no_form.Unfinished = Some kind.Unfinished
form_kind no_form.UnfinishedBeforeThen = Some kind.Unfinished
form_kind no_form.Unread = None

-- the kind of a reason why there is too much of something
abbrev pub limit_kind : LimitReason → Kind
limit_kind too_much.Statements = kind.TooManyStatements
limit_kind too_much.Continuations = kind.TooManyContinuations
limit_kind too_much.Groups = kind.TooManyGroups

-- the kind of a reason, if it is one of reading
abbrev pub kind_of : Reason → Option Kind
kind_of (Form reason) = form_kind reason
kind_of (Limit reason) = Some (limit_kind reason)
kind_of other = None

-- columns from one to before another, as far as they are on a card, and at least one
abbrev pub on_card : ℕ → ℕ → Span
on_card from to =
    record {
      from = min from (card_width - 1);
      to = max (min to card_width) (min from (card_width - 1) + 1);
    }

-- columns are some of these
abbrev pub ArePartOf : Span → Span → Type 0
ArePartOf span part = (span.from ≤ part.from) × (part.to ≤ span.to)
