use Rattle.std.proofs.Common.{◌≡◌, ◌+◌, ◌≤◌, length}
use Rattle.l6_word.specs.Lines.{lines_of}
use Rattle.l6_session.specs.Listing.{cards_near, cards_near_from}
use Rattle.l6_session.proofs.listing.cards_near.Given as goal

-- what is found so far, with the cards that are left, leads to what is found among all
abbrev pub invariant-loop-line : goal.invariant-loop-line
invariant-loop-line l = record {
  left : cards_near_from l.statement l.card l.begun l.found (lines_of l.rest)
      ≡ cards_near l.deck l.statement;
  numbers : l.card + length l.rest ≤ length l.deck;
  statements : l.begun ≤ l.card;
}

abbrev pub decreases-loop-line : goal.decreases-loop-line
decreases-loop-line l = length l.rest
