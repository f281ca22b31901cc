use Rattle.std.proofs.Common.{◌≡◌, ◌+◌, ◌≤◌, length}
use Rattle.l6_word.specs.Lines.{lines_of}
use Rattle.l6_check.specs.Indented.{with_indented}
use Rattle.l6_check.specs.Statements.{parts_of}
use Rattle.l6_check.proofs.indented.add_indented.Given as goal

-- the labels so far, with those that the parts that are left mean to give, are all
abbrev pub invariant-loop-part : goal.invariant-loop-part
invariant-loop-part l = record {
  given : with_indented l.given.entries (l.parts.before + 1) (parts_of (lines_of l.parts.rest.now))
      ≡ with_indented l.fn.given.entries 1 (parts_of (lines_of l.deck));
  numbers : l.parts.before + length l.parts.rest.now ≤ length l.deck;
}

abbrev pub decreases-loop-part : goal.decreases-loop-part
decreases-loop-part l = length l.parts.rest.now
