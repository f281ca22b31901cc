use Rattle.std.proofs.Common.{◌≡◌, ◌+◌, ◌≤◌, drop}
use Rattle.l6_trace.specs.Judging.{findings_in}
use Rattle.l6_trace.proofs.judging.findings_in.Given as goal

-- those so far and those that are left are all
abbrev pub invariant-loop-index : goal.invariant-loop-index
invariant-loop-index l =
    (l.findings + findings_in (drop l.index l.founds) ≡ findings_in l.founds) × (l.findings ≤ l.index)
