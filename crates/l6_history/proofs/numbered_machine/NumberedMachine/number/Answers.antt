use Rattle.std.proofs.Common.{◌≤◌, subst}
use Rattle.l6_steps.specs.Numbering.{last_number}
use Rattle.l6_steps.specs.Numerals.{most_steps}
use Rattle.l6_history.specs.inner.NumberedMachine.{NumberedMachine}
use Rattle.l6_history.proofs.NumberedMachines.{last_bound}
use Rattle.l6_history.proofs.numbered_machine.NumberedMachine.number.Goals as goal

pub returns-clause-bound : goal.returns-clause-bound
returns-clause-bound g c =
    subst (λ (v : NumberedMachine). last_number g.S.Places.rule v.context ≤ most_steps) c.self.view_is
    (last_bound g.S.Places.rule c.self.inside.machine.context c.self.invariant.allowed)
