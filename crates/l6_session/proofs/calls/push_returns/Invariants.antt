use Rattle.std.proofs.Common.{◌≡◌, ◌+◌, ◌-◌, ◌++◌, ◌≤◌, length, reverse}
use Rattle.std.specs.List.{enumerate_from, flat_map}
use Rattle.l6_session.specs.Texts.{return_line}
use Rattle.l6_session.proofs.calls.push_returns.Given as goal

-- the text so far, with the lines of the returns that are left, is that of all returns
abbrev pub invariant-loop-waiting : goal.invariant-loop-waiting
invariant-loop-waiting l = record {
  within : length l.rest ≤ length l.returns;
  text : l.text.items
      ++ flat_map (return_line l.labels.entries)
      (enumerate_from (length l.returns - length l.rest + 1) (reverse l.rest))
      ≡ l.fn.text.items
      ++ flat_map (return_line l.labels.entries) (enumerate_from 1 (reverse l.returns));
}

abbrev pub decreases-loop-waiting : goal.decreases-loop-waiting
decreases-loop-waiting l = length l.rest
