use Rattle.std.proofs.Common.{◌≡◌, ◌+◌, ◌++◌, ◌≤◌, length}
use Rattle.l6_word.specs.Lines.{lines_of}
use Rattle.l6_session.specs.Drawn.{drawn_from}
use Rattle.l6_session.proofs.drawn.push_first.Given as goal

-- the text so far, with the lines that are left, is that of all
abbrev pub invariant-loop-line : goal.invariant-loop-line
invariant-loop-line l = record {
  text : l.text.items ++ drawn_from l.count (lines_of l.rest)
      ≡ l.fn.text.items ++ drawn_from 0 (lines_of l.fn.whole);
  numbers : l.count + length l.rest ≤ length l.fn.whole;
}

abbrev pub decreases-loop-line : goal.decreases-loop-line
decreases-loop-line l = length l.rest
