use Rattle.std.proofs.Common.{ap, sym, ◌∙◌}
use Rattle.l6_history.specs.inner.NumberedMachine.{NumberedMachine}
use Rattle.l6_history.proofs.NumberedMachines.{outputs_alike}
use Rattle.l6_history.proofs.numbered_machine.NumberedMachine.take_from.Goals as goal

-- both are at states of one run
pub take_from-requires-clause-output : goal.take_from-requires-clause-output
take_from-requires-clause-output g c =
    outputs_alike g.S.Places.rule c.self.inside.machine c.other.inside.machine
    c.self.inside.number c.other.inside.number c.self.invariant c.other.invariant
    (ap (λ (v : NumberedMachine). v.context) c.self.view_is ∙ c.requires
    ∙ sym (ap (λ (v : NumberedMachine). v.context) c.other.view_is))
