use Rattle.std.proofs.Common.{◌≡◌, take}
use Rattle.l6_prog.proofs.program.Program.duplicate.Given as goal

-- the statements so far
abbrev pub invariant-loop-statement : goal.invariant-loop-statement
invariant-loop-statement l = l.statements.items ≡ take l.statement-index l.statement-items
