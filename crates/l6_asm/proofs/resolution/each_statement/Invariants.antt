use Rattle.std.proofs.Common.{◌≡◌, Ok}
use Rattle.l6_asm.specs.Resolution.{each_made, statement_of}
use Rattle.l6_asm.proofs.resolution.each_statement.Given as goal

-- the statements of the written ones so far
abbrev pub invariant-loop-one : goal.invariant-loop-one
invariant-loop-one l = each_made (statement_of l.labels.entries) l.yielded ≡ Ok l.statements.items
