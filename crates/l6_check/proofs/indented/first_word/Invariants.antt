use Rattle.std.proofs.Common.{◌≡◌, ◌+◌, ◌≤◌, length, take}
use Rattle.l6_word.specs.Lines.{lines_of}
use Rattle.l6_check.specs.Indented.{label_on_card}
use Rattle.l6_check.specs.inner.Parts.{lines_in}
use Rattle.l6_check.proofs.indented.first_word.Given as goal

-- the card that objects is among the lines that are left, if it is among all
abbrev pub invariant-loop-left : goal.invariant-loop-left
invariant-loop-left l = record {
  same : label_on_card l.objection (l.card + 1) (take l.left (lines_of l.rest))
      ≡ label_on_card l.objection (l.part.before + 1) (lines_in l.part);
  numbers : l.card + length l.rest ≤ l.part.before + length l.part.text.now;
}

abbrev pub decreases-loop-left : goal.decreases-loop-left
decreases-loop-left l = l.left
