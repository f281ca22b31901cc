use Rattle.std.proofs.Common.{◌≡◌, ◌≤◌, take}
use Rattle.l6_lsp.specs.Fixes as spec
use Rattle.l6_lsp.proofs.fixes.errors_in.Given as goal

-- the errors that were passed are counted, and no more than were passed
abbrev pub invariant-loop-finding : goal.invariant-loop-finding
invariant-loop-finding l =
    (l.count ≡ spec.errors_in (take l.finding-index l.findings)) × (l.count ≤ l.finding-index)
