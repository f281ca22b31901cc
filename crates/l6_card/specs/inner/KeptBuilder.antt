-- Builders, as a reader keeps them.
use Rattle.std.specs.Prelude.{◌≡◌, IfSome, Result, Ok, Err, MatchResult}
use Rattle.l6_card.specs.declared.fault.CardFault.{CardFault}
use Rattle.l6_card.specs.declared.builder.StatementBuilder.{StatementBuilder as Kept}
use Rattle.l6_card.specs.declared.builder.Phase.{Phase as KeptPhase}
use Rattle.l6_card.specs.declared.builder.Phase.TheVariants as kept_phase
use Rattle.l6_card.specs.declared.cards.Parts.{Parts}
use Rattle.l6_card.specs.Statement.{DeckStatementParts}
use Rattle.l6_card.specs.inner.StatementBuilder.{StatementBuilder, Phase, New, Worded, Tested, Open, Closed}
use Rattle.l6_card.specs.DeckFault.{DeckFault, deck_fault}

-- the phase that a reader keeps
abbrev pub phase_of_kept : KeptPhase → Phase
phase_of_kept kept_phase.New = New
phase_of_kept (kept_phase.Worded condition) = Worded condition
phase_of_kept kept_phase.Tested = Tested
phase_of_kept kept_phase.Open = Open
phase_of_kept kept_phase.Closed = Closed

-- the builder that a reader keeps
abbrev pub kept_builder : Kept → StatementBuilder
kept_builder kept =
    record {
      phase = phase_of_kept kept.phase;
      condition = kept.condition;
      tests = kept.tests.items;
      operations = kept.operations.items;
      exit = kept.exit;
    }

-- the statement of these parts
abbrev pub statement_of_parts : Parts → DeckStatementParts
statement_of_parts parts =
    record {
      label = parts.label;
      condition = parts.condition;
      tests = parts.tests.items;
      operations = parts.operations.items;
      exit = parts.exit;
    }

-- a step of a reader that has this builder afterwards made it, or stopped at the objection that was
-- met; out of memory may stop it anywhere
abbrev pub Takes : {X : Type 0} → Result X CardFault → StatementBuilder →
    Result StatementBuilder DeckFault → Type 0
Takes result builder made =
    MatchResult result
    (λ _. made ≡ Ok builder)
    (λ fault. IfSome (deck_fault fault) (λ objection. made ≡ Err objection))
