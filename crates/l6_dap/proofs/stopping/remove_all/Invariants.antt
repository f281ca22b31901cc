use Rattle.std.proofs.Common.{◌≡◌}
use Rattle.l6_dap.specs.inner.Setting.{cleared}
use Rattle.l6_dap.proofs.stopping.remove_all.Given as goal

abbrev pub invariant-loop-statement : goal.invariant-loop-statement
invariant-loop-statement l = record {
  context : l.session.context ≡ l.initial.session.context;
  state : l.session.state ≡ cleared l.statement l.initial.session.state;
}
