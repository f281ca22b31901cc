use Rattle.std.proofs.Common.{◌≡◌, ◌+◌, ◌≤◌, drop}
use Rattle.l6_trace.specs.Ending.{answers_in}
use Rattle.l6_trace.proofs.ending.answers_in.Given as goal

-- those so far and those that are left are all
abbrev pub invariant-loop-index : goal.invariant-loop-index
invariant-loop-index l =
    (l.answers + answers_in (drop l.index l.lines) ≡ answers_in l.lines) × (l.answers ≤ l.index)
