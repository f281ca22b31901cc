use Rattle.std.proofs.Common.{◌≡◌, ◌≤◌, ◌-◌, ◌++◌, suc, length}
use Rattle.l6_word.specs.Lines.{lines_of}
use Rattle.l6_place.specs.Cards as spec
use Rattle.l6_place.proofs.statements.first_cards.Given as goal

-- the cards that are found, and those of the lines that are left, are all
abbrev pub invariant-loop-line : goal.invariant-loop-line
invariant-loop-line l = record {
  all : l.cards.items ++ spec.first_cards_from (suc l.card) (lines_of l.rest) ≡ spec.first_cards l.deck;
  within : length l.rest ≤ length l.deck;
  few : l.card ≤ length l.deck - length l.rest;
}

abbrev pub decreases-loop-line : goal.decreases-loop-line
decreases-loop-line l = length l.rest
