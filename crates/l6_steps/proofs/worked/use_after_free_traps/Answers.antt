use Rattle.l6_steps.proofs.Examples.{use_after_free_traps}
use Rattle.l6_steps.proofs.worked.use_after_free_traps.Goals as goal

pub returns : goal.returns
returns c = use_after_free_traps
