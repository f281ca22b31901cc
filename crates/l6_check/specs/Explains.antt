-- What findings say of the objections of the reader of cards.
use Rattle.std.specs.Prelude.{◌≡◌, ℕ, List, Some}
use Rattle.l6_card.specs.Card.{columns_of}
use Rattle.l6_card.specs.declared.objection.Objection.{Objection}
use Rattle.l6_card.specs.declared.objection.Reason.{Reason as Kind}
use Rattle.l6_card.specs.declared.objection.Reason.TheVariants as kind
use Rattle.l6_check.specs.declared.finding.Finding.{Finding}
use Rattle.l6_check.specs.declared.finding.Span.{Span}
use Rattle.l6_check.specs.Faults.{ArePartOf, kind_of, on_card}
use Rattle.l6_check.specs.Marked.{condition_or, unclosed_group, word_before}

-- a piece of a card with these columns objects for a reason of this kind: a finding is about its columns. But
-- where a group follows a word that cannot stand before one, it is about the word; where nothing closes a group,
-- about the group up to the next one; where THEN is no exit, about a condition in column 1; and where a group has
-- no reading, about what is wrong in it
abbrev pub AreColumnsOf : Kind → List ℕ → Span → Span → Type 0
AreColumnsOf kind.NoOperation columns piece span = ArePartOf piece span
AreColumnsOf kind.NoTest columns piece span = ArePartOf piece span
AreColumnsOf kind.NoCondition columns piece span = span ≡ word_before columns piece
AreColumnsOf kind.AfterExit columns piece span = span ≡ word_before columns piece
AreColumnsOf kind.Unclosed columns piece span = span ≡ unclosed_group columns piece
AreColumnsOf kind.NoExit columns piece span = span ≡ condition_or columns piece
AreColumnsOf other columns piece span = span ≡ piece

-- the finding says an objection: its card, its columns and the kind of its reason
pub record Explains (finding : Finding) (objection : Objection) : Type 0 where
  pub card : finding.card ≡ objection.card
  pub kind_is : kind_of finding.reason ≡ Some objection.reason
  pub columns : AreColumnsOf objection.reason (columns_of finding.line.now)
      (on_card objection.from objection.to) finding.span
