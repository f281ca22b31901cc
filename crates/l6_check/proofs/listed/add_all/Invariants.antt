use Rattle.std.proofs.Common.{◌≡◌, ◌++◌, take}
use Rattle.l6_check.proofs.listed.add_all.Given as goal

-- those that came so far are added
abbrev pub invariant-loop-finding : goal.invariant-loop-finding
invariant-loop-finding l =
    l.all.items ≡ l.fn.all.items ++ take l.finding-index l.findings.kept.items
