use Rattle.std.proofs.Common.{◌*◌, take}
use Rattle.std.specs.List.{flat_map}
use Rattle.l6_check.specs.Missing.{missing_in}
use Rattle.l6_check.specs.inner.Names.{AreAdded, most_names}
use Rattle.l6_check.proofs.names.add_missing.Given as goal

-- the missing labels so far are added
abbrev pub invariant-loop-statement : goal.invariant-loop-statement
invariant-loop-statement l =
    AreAdded l.given.entries (flat_map (missing_in l.given.entries) (take l.statement-index l.statements))
    (most_names * l.statement-index) l.fn.missing l.missing
