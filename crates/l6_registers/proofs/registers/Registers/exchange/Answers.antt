use Rattle.l6_registers.proofs.Got.{assigned_holds}
use Rattle.l6_registers.proofs.registers.Registers.exchange.Goals as goal

-- what was at the second locus still is
pub assign-requires-2 : goal.assign-requires-2
assign-requires-2 g c =
    assigned_holds c.args.self.now c.assign.new.self c.in_ok-here.here c.in_ok-there.there
    c.get-second.result c.assign.ensures c.in_ok-there.ensures.locus
