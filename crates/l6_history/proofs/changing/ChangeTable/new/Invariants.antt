use Rattle.std.proofs.Common.{◌≡◌, length}
use Rattle.l6_history.specs.inner.Changing.{IsTable}
use Rattle.l6_history.proofs.changing.ChangeTable.new.Given as goal

-- the table has a row for each statement, and what it says so far is known
abbrev pub invariant-loop-number : goal.invariant-loop-number
invariant-loop-number l = record {
  many : length l.rows.items ≡ length l.program;
  known : IsTable l.watched l.program l.rows.items;
}
