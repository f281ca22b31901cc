use Rattle.l6_steps.proofs.Calculations.{differences_add_up}
use Rattle.l6_steps.proofs.laws.sums_undo_differences.Goals as goal

pub returns : goal.returns
returns c = differences_add_up
