use Rattle.std.proofs.Common.{◌≡◌, ◌+◌, ◌++◌, ◌≤◌, length}
use Rattle.l6_word.specs.Lines.{lines_of}
use Rattle.l6_session.specs.Listing.{cards_from}
use Rattle.l6_session.proofs.listing.push_cards.Given as goal

-- the text so far, with the lines of the cards that are left, is that of all
abbrev pub invariant-loop-line : goal.invariant-loop-line
invariant-loop-line l = record {
  text : l.text.items ++ cards_from l.cards l.card (lines_of l.rest)
      ≡ l.fn.text.items ++ cards_from l.cards 0 (lines_of l.fn.deck);
  numbers : l.card + length l.rest ≤ length l.fn.deck;
}

abbrev pub decreases-loop-line : goal.decreases-loop-line
decreases-loop-line l = length l.rest
