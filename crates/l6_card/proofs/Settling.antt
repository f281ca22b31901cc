-- The fault of a deck and what it says settle each other.
use Rattle.std.proofs.Common.{◌≡◌, ℕ, List, [], ◌∷◌, true, Some, None, Result, Ok, Err, refl, sym, ap, ◌∙◌, arith, length, subst}
use Rattle.std.specs.List.{list_all}
use Rattle.std.specs.Option.{option_map}
use Rattle.std.proofs.lemmas.Bool.{and_from}
use Rattle.l6_card.specs.Card.{Card, skipped, plain, labelled, continued, unknown, cards_of}
use Rattle.l6_card.specs.Statement.{DeckStatementParts, is_fit}
use Rattle.l6_card.specs.declared.objection.Objection.{Objection}
use Rattle.l6_card.specs.Objection.{fault_in}
use Rattle.l6_card.specs.inner.Pass.{Stage, pass_of}
use Rattle.l6_card.specs.ReadsAs.{ReadsAs, CardsDenote}
use Rattle.l6_card.specs.Laws.{AreWithinLimits, ReadsOnlyWithoutFault, ReadsWithoutFault, ReadsInOneWay, IsOnlyReading, IsFirstFault}
use Rattle.l6_card.specs.Fault.{objection_met, fault_of}
use Rattle.l6_card.proofs.Statements.{cards_denoted}
use Rattle.l6_card.proofs.Takings.{cards_go, same_statements}
use Rattle.l6_card.proofs.Following.{objection_of_pass}

-- a deck whose pieces are all taken reads
pub reads_when_taken : (deck : List ℕ) (final : Stage) → pass_of deck ≡ Ok final →
    ReadsAs deck final.statements
reads_when_taken deck final taken =
    let denoted = cards_denoted (cards_of deck) final taken in
    record {
      begins = denoted.begins;
      cards = subst (λ (s : List DeckStatementParts). CardsDenote (cards_of deck) s)
          (sym denoted.all) denoted.denote;
      fits = omega (arith, denoted.fits, ap length denoted.all);
    }

pub reads_only_without_fault : ReadsOnlyWithoutFault
reads_only_without_fault deck statements reads =
    let taken = cards_go (cards_of deck) statements reads.begins reads.cards reads.fits in
    ap (option_map fault_in) (objection_of_pass deck ∙ ap objection_met taken.1)

reads_by_pass : (deck : List ℕ) (pass : Result Stage Objection) →
    pass_of deck ≡ pass → option_map fault_in (objection_met pass) ≡ None →
    (statements : List DeckStatementParts) × ReadsAs deck statements
reads_by_pass deck (Ok final) taken none = (final.statements, reads_when_taken deck final taken)
reads_by_pass deck (Err fault) taken none = absurd (cc)

pub reads_without_fault : ReadsWithoutFault
reads_without_fault deck none =
    reads_by_pass deck (pass_of deck) refl
    (sym (ap (option_map fault_in) (objection_of_pass deck)) ∙ none)

pub reads_in_one_way : ReadsInOneWay
reads_in_one_way deck one other reads reads' =
    same_statements (cards_of deck) one other reads.cards reads'.cards

-- a reader that took each piece knows the only reading of the deck
pub only_reading_taken : (deck : List ℕ) (final : Stage) →
    pass_of deck ≡ Ok final → IsOnlyReading deck final.statements
only_reading_taken deck final taken others reads =
    reads_in_one_way deck others final.statements reads (reads_when_taken deck final taken)

-- the deck has no fault then
pub no_fault_taken : (deck : List ℕ) (final : Stage) → pass_of deck ≡ Ok final →
    fault_of deck ≡ None
no_fault_taken deck final taken =
    ap (option_map fault_in) (objection_of_pass deck ∙ ap objection_met taken)

-- each statement that cards say is fit
each_fit : (cards : List Card) (statements : List DeckStatementParts) →
    CardsDenote cards statements → list_all is_fit statements ≡ true
each_fit [] [] denote = refl
each_fit [] (statement ∷ statements) denote = absurd denote
each_fit (skipped ∷ cards) statements denote = each_fit cards statements denote
each_fit (continued body ∷ cards) statements denote = each_fit cards statements denote
each_fit (plain body ∷ cards) [] denote = absurd denote
each_fit (plain body ∷ cards) (statement ∷ statements) denote =
    and_from (is_fit statement) (list_all is_fit statements) denote.0.fit
    (each_fit cards statements denote.1)
each_fit (labelled columns body ∷ cards) [] denote = absurd denote
each_fit (labelled columns body ∷ cards) (statement ∷ statements) denote =
    and_from (is_fit statement) (list_all is_fit statements) denote.0.2.fit
    (each_fit cards statements denote.1)
each_fit (unknown number ∷ cards) statements denote = absurd denote

-- what a deck says is within the limits
pub within_limits : (deck : List ℕ) (statements : List DeckStatementParts) →
    ReadsAs deck statements → AreWithinLimits statements
within_limits deck statements reads = record {
  count = reads.fits;
  each = each_fit (cards_of deck) statements reads.cards;
}

-- a reader that met an objection knows the fault of the deck
pub first_fault_met : (deck : List ℕ) (objection : Objection) → pass_of deck ≡ Err objection →
    IsFirstFault deck (fault_in objection)
first_fault_met deck objection met =
    let first : fault_of deck ≡ Some (fault_in objection) =
    ap (option_map fault_in) (objection_of_pass deck ∙ ap objection_met met) in
    record {
      first = first;
      unread = λ statements reads. let none = reads_only_without_fault deck statements reads in cc;
    }
