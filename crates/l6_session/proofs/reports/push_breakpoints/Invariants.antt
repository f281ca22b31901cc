use Rattle.std.proofs.Common.{◌≡◌, ◌+◌, ◌++◌, length}
use Rattle.std.specs.List.{enumerate_from, flat_map}
use Rattle.l6_session.specs.Reports.{break_line, break_lines}
use Rattle.l6_session.proofs.reports.push_breakpoints.Given as goal

-- the text so far, with the lines of the statements that are left, is that of all
abbrev pub invariant-loop-is_set : goal.invariant-loop-is_set
invariant-loop-is_set l = record {
  text : l.text.items
      ++ flat_map (break_line l.names.labels l.temporary l.stop.tests) (enumerate_from l.statement l.rest)
      ≡ l.fn.text.items ++ break_lines l.names.labels l.temporary l.stop.tests l.stop.breakpoints;
  numbers : l.statement + length l.rest ≡ length l.stop.breakpoints;
}

abbrev pub decreases-loop-is_set : goal.decreases-loop-is_set
decreases-loop-is_set l = length l.rest
