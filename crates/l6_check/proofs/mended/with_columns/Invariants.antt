use Rattle.std.proofs.Common.{◌≡◌, ◌+◌, ◌≤◌, length}
use Rattle.l6_check.specs.Statements.{mended}
use Rattle.l6_check.specs.inner.Parts.{lines_in}
use Rattle.l6_check.proofs.Mending.{AreWritten}
use Rattle.l6_check.proofs.mended.with_columns.Given as goal

-- the lines so far are written
abbrev pub invariant-loop-left : goal.invariant-loop-left
invariant-loop-left l = record {
  written : AreWritten l.objection l.columns l.card l.left l.rest l.text.items
      (mended l.objection l.columns (l.part.before + 1) (lines_in l.part));
  fewer : length l.text.items + length l.rest ≤ length l.part.text.now;
  numbers : l.card + l.left ≡ l.part.before + l.part.count;
}

abbrev pub decreases-loop-left : goal.decreases-loop-left
decreases-loop-left l = l.left
