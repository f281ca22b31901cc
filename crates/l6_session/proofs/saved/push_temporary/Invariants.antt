use Rattle.std.proofs.Common.{◌≡◌, ◌+◌, ◌++◌, length}
use Rattle.l6_session.specs.Saved.{temporary_breaks}
use Rattle.l6_session.proofs.saved.push_temporary.Given as goal

-- the commands so far, with those of the statements that are left, are all
abbrev pub invariant-loop-is_temporary : goal.invariant-loop-is_temporary
invariant-loop-is_temporary l = record {
  commands : l.commands.items ++ temporary_breaks l.statement l.rest
      ≡ l.fn.commands.items ++ temporary_breaks 0 l.temporary;
  numbers : l.statement + length l.rest ≡ length l.temporary;
}

abbrev pub decreases-loop-is_temporary : goal.decreases-loop-is_temporary
decreases-loop-is_temporary l = length l.rest
