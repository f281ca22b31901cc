use Rattle.std.proofs.Common.{◌≤◌, length}
use Rattle.l6_trace.specs.Numerals.{most_calls}
use Rattle.l6_trace.proofs.trace.read_trace.Given as goal

-- each line has at most one call, and there are no more calls than there may be
abbrev pub invariant-loop-line : goal.invariant-loop-line
invariant-loop-line l = record {
  calls : length l.lines.items ≤ l.number;
  few : length l.lines.items ≤ most_calls;
}

abbrev pub decreases-loop-line : goal.decreases-loop-line
decreases-loop-line l = length l.rest
