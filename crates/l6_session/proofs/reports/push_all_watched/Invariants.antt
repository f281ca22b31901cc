use Rattle.std.proofs.Common.{◌≡◌, ◌+◌, ◌++◌, length}
use Rattle.std.specs.List.{enumerate_from, flat_map}
use Rattle.l6_session.specs.Reports.{watched_lines}
use Rattle.l6_session.specs.Texts.{numbered_watch}
use Rattle.l6_session.proofs.reports.push_all_watched.Given as goal

-- the text so far, with the lines of what is left, is that of all
abbrev pub invariant-loop-one : goal.invariant-loop-one
invariant-loop-one g l = record {
  text : l.text.items
      ++ flat_map
      (λ one. numbered_watch l.machine.configuration.state.memory one.0 one.1)
      (enumerate_from l.number l.rest)
      ≡ l.fn.text.items ++ watched_lines l.machine.configuration.state.memory l.fn.watched;
  numbers : l.number + length l.rest ≡ length l.fn.watched + 1;
}

abbrev pub decreases-loop-one : goal.decreases-loop-one
decreases-loop-one g l = length l.rest
