use Rattle.std.proofs.Common.{◌≡◌, ◌+◌, ◌≤◌, length}
use Rattle.l6_word.specs.Lines.{lines_of}
use Rattle.l6_session.proofs.listing.count_of.Given as goal

-- the cards so far and those that are left are all
abbrev pub invariant-loop-following : goal.invariant-loop-following
invariant-loop-following l = record {
  left : l.count + length (lines_of l.rest) ≡ length (lines_of l.deck);
  numbers : l.count + length l.rest ≤ length l.deck;
}

abbrev pub decreases-loop-following : goal.decreases-loop-following
decreases-loop-following l = length l.rest
