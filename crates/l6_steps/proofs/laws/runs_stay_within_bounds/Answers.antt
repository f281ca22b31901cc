use Rattle.l6_steps.proofs.Bounds.{runs_stay_within_bounds}
use Rattle.l6_steps.proofs.laws.runs_stay_within_bounds.Goals as goal

pub returns : goal.returns
returns c = runs_stay_within_bounds
