use Rattle.l6_registers.proofs.Windows.{near_known}
use Rattle.l6_registers.proofs.registers.RegistersReadable.live.Goals as goal

-- a block lies in its store
pub returns-clause-place : goal.returns-clause-place
returns-clause-place g c =
    near_known g.S.Places.rule _ c.args.pointer c.live.result c.self.invariant.are_held
    c.live.ensures.live
