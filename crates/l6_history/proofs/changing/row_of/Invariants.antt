use Rattle.l6_history.specs.inner.Changing.{IsRow}
use Rattle.l6_history.proofs.changing.row_of.Given as goal

-- what the row says so far is known
abbrev pub invariant-loop-index : goal.invariant-loop-index
invariant-loop-index l = record { known : IsRow l.watched l.statement l.row }
