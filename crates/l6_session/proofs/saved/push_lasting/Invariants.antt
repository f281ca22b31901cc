use Rattle.std.proofs.Common.{◌≡◌, ◌+◌, ◌++◌, length}
use Rattle.l6_session.specs.Saved.{lasting_breaks}
use Rattle.l6_session.proofs.saved.push_lasting.Given as goal

-- the commands so far, with those of the statements that are left, are all
abbrev pub invariant-loop-is_set : goal.invariant-loop-is_set
invariant-loop-is_set l = record {
  commands : l.commands.items ++ lasting_breaks l.statement l.breakpoints l.temporary
      ≡ l.fn.commands.items ++ lasting_breaks 0 l.fn.breakpoints l.fn.temporary;
  numbers : l.statement + length l.breakpoints ≡ length l.fn.breakpoints;
}

abbrev pub decreases-loop-is_set : goal.decreases-loop-is_set
decreases-loop-is_set l = length l.breakpoints
