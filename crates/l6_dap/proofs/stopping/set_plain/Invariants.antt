use Rattle.std.proofs.Common.{◌≡◌, drop}
use Rattle.l6_dap.specs.inner.Setting.{with_all_plain}
use Rattle.l6_dap.proofs.stopping.set_plain.Given as goal

abbrev pub invariant-loop-one : goal.invariant-loop-one
invariant-loop-one l = record {
  context : l.session.context ≡ l.initial.session.context;
  state : with_all_plain (drop l.one-index l.asked) l.session.state ≡ with_all_plain l.asked l.initial.session.state;
}
