use Rattle.std.proofs.Common.{◌≡◌, ◌+◌, ◌++◌, ◌≤◌, length}
use Rattle.l6_word.specs.Lines.{lines_of}
use Rattle.l6_session.specs.Reports.{near_from, near_text}
use Rattle.l6_session.proofs.cards.push_near.Given as goal

-- the text so far, with the lines of the cards that are left, is that of all
abbrev pub invariant-loop-line : goal.invariant-loop-line
invariant-loop-line l = record {
  text : l.text.items ++ near_from l.statement l.card l.begun (lines_of l.rest)
      ≡ l.fn.text.items ++ near_text l.fn.deck l.statement;
  numbers : l.card + length l.rest ≤ length l.fn.deck;
  statements : l.begun ≤ l.card;
}

abbrev pub decreases-loop-line : goal.decreases-loop-line
decreases-loop-line l = length l.rest
