use Rattle.l6_registers.proofs.Got.{vacant_known}
use Rattle.l6_registers.proofs.registers.Registers.peek.Goals as goal

-- no block begins at an open place
pub returns-clause-vacant : goal.returns-clause-vacant
returns-clause-vacant g c =
    vacant_known g.S.Places.rule _ c.args.self.now (g.S.Places.store c.self.inside.store).units
    c.args.level c.peek.result c.self.invariant.are_held c.self.view_is c.self.invariant.same_units
    c.peek.ensures.fits
