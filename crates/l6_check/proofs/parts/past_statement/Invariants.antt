use Rattle.std.proofs.Common.{◌≡◌, ◌+◌, ◌≤◌, length, drop}
use Rattle.l6_word.specs.Lines.{lines_of}
use Rattle.l6_check.specs.Statements.{further_count}
use Rattle.l6_check.proofs.parts.past_statement.Given as goal

-- the cards so far belong to the statement before
abbrev pub invariant-loop-line : goal.invariant-loop-line
invariant-loop-line l = record {
  all : l.further + further_count (lines_of l.rest) ≡ further_count (lines_of l.text);
  left : lines_of l.rest ≡ drop l.further (lines_of l.text);
  numbers : l.further + length l.rest ≤ length l.text;
}

abbrev pub decreases-loop-line : goal.decreases-loop-line
decreases-loop-line l = length l.rest
