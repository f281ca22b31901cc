use Rattle.std.proofs.Common.{◌≡◌, ◌+◌, ◌≤◌, length}
use Rattle.l6_word.specs.Lines.{lines_of}
use Rattle.l6_session.specs.Names.{statement_on}
use Rattle.l6_session.proofs.names.statement_on.Given as goal

-- the answer is that of the cards that are left
abbrev pub invariant-loop-line : goal.invariant-loop-line
invariant-loop-line l = record {
  left : statement_on l.wanted l.card l.begun (lines_of l.rest)
      ≡ statement_on l.wanted 0 0 (lines_of l.deck);
  numbers : l.card + length l.rest ≤ length l.deck;
  statements : l.begun ≤ l.card;
}

abbrev pub decreases-loop-line : goal.decreases-loop-line
decreases-loop-line l = length l.rest
