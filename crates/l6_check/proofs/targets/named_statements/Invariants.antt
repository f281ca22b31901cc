use Rattle.std.proofs.Common.{◌≡◌, take}
use Rattle.std.specs.List.{flat_map}
use Rattle.l6_prog.specs.Target.{targets_of}
use Rattle.l6_check.proofs.targets.named_statements.Given as goal

-- the targets of the statements so far are listed
abbrev pub invariant-loop-statement : goal.invariant-loop-statement
invariant-loop-statement l = l.targets.items ≡ flat_map targets_of (take l.statement-index l.statements)
