use Rattle.std.proofs.Common.{◌≡◌, ◌+◌, ◌++◌, ◌≤◌, length}
use Rattle.l6_word.specs.Lines.{lines_of}
use Rattle.l6_marks.specs.Marks.{marked_from}
use Rattle.l6_marks.proofs.statement.push_statement.Given as goal

-- the text so far, with the cards that are left, is that of all
abbrev pub invariant-loop-line : goal.invariant-loop-line
invariant-loop-line l = record {
  text : l.text.items ++ marked_from l.statement l.next l.card l.begun (lines_of l.rest)
      ≡ l.fn.text.items ++ marked_from l.statement l.fn.ahead 0 0 (lines_of l.fn.deck);
  numbers : l.card + length l.rest ≤ length l.fn.deck;
  statements : l.begun ≤ l.card;
}

abbrev pub decreases-loop-line : goal.decreases-loop-line
decreases-loop-line l = length l.rest
