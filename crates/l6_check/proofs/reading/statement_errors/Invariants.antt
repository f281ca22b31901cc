use Rattle.std.proofs.Common.{◌≡◌, ℕ, ◌+◌, ◌*◌, ◌≤◌, ◌++◌, List, length}
use Rattle.l6_word.specs.Lines.{lines_of}
use Rattle.l6_card.specs.declared.objection.Objection.{Objection}
use Rattle.l6_check.specs.Explains.{Explains}
use Rattle.l6_group.specs.declared.label.Label.{Label}
use Rattle.l6_check.specs.Missing.{AreNearest, MissingFrom, missing_said}
use Rattle.l6_check.specs.inner.Names.{most_names}
use Rattle.l6_check.specs.OnCard.{AreOnTheirCards}
use Rattle.l6_check.specs.Kept.{Say, AreOf}
use Rattle.l6_check.specs.Statements.{most_of_statement, objections_from, parts_of, statement_objections}
use Rattle.l6_check.proofs.reading.statement_errors.Given as goal

-- the objections that are said so far, with those to the parts that are left, are those to all
abbrev pub invariant-loop-part : goal.invariant-loop-part
invariant-loop-part l = record {
  reading : (so_far : List Objection) × AreOf Explains so_far l.reading
      × (so_far ++ objections_from (l.parts.before + 1) (parts_of (lines_of l.parts.rest.now))
      ≡ statement_objections l.deck);
  places : AreOnTheirCards l.reading;
  missing : (so_far : List (ℕ × Label)) × Say missing_said so_far l.missing
      × ((more : List (ℕ × Label)) →
      MissingFrom l.given.entries (l.parts.before + 1) (parts_of (lines_of l.parts.rest.now)) more →
      MissingFrom l.given.entries 1 (parts_of (lines_of l.deck)) (so_far ++ more));
  missing_places : AreOnTheirCards l.missing;
  near : AreNearest l.given.entries l.missing;
  missing_few : l.missing.count ≤ most_names * l.parts.before;
  few : l.reading.count ≤ most_of_statement * l.parts.before;
  numbers : l.parts.before + length l.parts.rest.now ≤ length l.deck;
}

abbrev pub decreases-loop-part : goal.decreases-loop-part
decreases-loop-part l = length l.parts.rest.now
