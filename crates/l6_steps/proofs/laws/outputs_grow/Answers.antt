use Rattle.l6_steps.proofs.Outputs.{outputs_grow}
use Rattle.l6_steps.proofs.laws.outputs_grow.Goals as goal

pub returns : goal.returns
returns c = outputs_grow
