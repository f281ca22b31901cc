use Rattle.std.proofs.Common.{◌*◌, take}
use Rattle.std.specs.List.{flat_map}
use Rattle.l6_check.specs.Missing.{missing_in_group}
use Rattle.l6_check.specs.inner.Names.{AreAdded}
use Rattle.l6_check.proofs.names.add_of_groups.Given as goal

-- the missing labels so far are added
abbrev pub invariant-loop-group : goal.invariant-loop-group
invariant-loop-group l =
    AreAdded l.given.entries (flat_map (missing_in_group l.given.entries) (take l.group-index l.groups))
    (2 * l.group-index) l.fn.missing l.missing
