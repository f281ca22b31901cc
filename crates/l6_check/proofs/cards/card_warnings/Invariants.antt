use Rattle.std.proofs.Common.{◌+◌, ◌≤◌, length}
use Rattle.l6_check.proofs.CardSteps.{SaysSoFar}
use Rattle.l6_check.proofs.cards.card_warnings.Given as goal

-- the cards that are said so far, with those of the lines that are left, are those of all
abbrev pub invariant-loop-line : goal.invariant-loop-line
invariant-loop-line l = record {
  columns : SaysSoFar l.columns l.card l.rest l.deck;
  few : l.columns.count ≤ l.card;
  numbers : l.card + length l.rest ≤ length l.deck;
}

abbrev pub decreases-loop-line : goal.decreases-loop-line
decreases-loop-line l = length l.rest
