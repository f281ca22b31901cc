use Rattle.std.proofs.Common.{◌≡◌, ◌-◌}
use Rattle.l6_dap.specs.Entering.{into_call}
use Rattle.l6_dap.proofs.entering.enter.Given as goal

-- what is left of the way leads as far as the whole way
abbrev pub invariant-loop : goal.invariant-loop
invariant-loop l = into_call (l.actions - l.counter) l.session ≡ into_call l.actions l.initial.session
