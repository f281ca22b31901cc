use Rattle.l6_steps.proofs.RunLengths.{runs_end, runs_go_on}
use Rattle.l6_steps.proofs.laws.runs_end.Goals as goal

pub returns : goal.returns
returns c = record { end = runs_end; go_on = runs_go_on }
