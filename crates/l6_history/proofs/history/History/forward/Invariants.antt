use Rattle.std.proofs.Common.{◌≡◌, ◌+◌, ◌-◌, ◌≤◌}
use Rattle.l6_history.proofs.history.History.forward.Given as goal

-- the state is on the way, and the states on it are counted
abbrev pub invariant-loop-alloc : goal.invariant-loop-alloc
invariant-loop-alloc g l = record {
  context : l.self.context ≡ l.fn.self.context;
  on : l.self.number ≤ l.number;
  counted : l.fn.self.number + l.ran ≡ l.self.number;
}

abbrev pub decreases-loop-alloc : goal.decreases-loop-alloc
decreases-loop-alloc g l = l.number - l.self.number
