use Rattle.std.proofs.Common.{◌≡◌, true, take}
use Rattle.std.specs.List.{list_all}
use Rattle.l6_prog.specs.Values.{has_values}
use Rattle.l6_prog.proofs.program.reveal_statements.Given as goal

-- each statement so far has its values
abbrev pub invariant-loop-statement : goal.invariant-loop-statement
invariant-loop-statement l = list_all has_values (take l.statement-index l.statements) ≡ true
