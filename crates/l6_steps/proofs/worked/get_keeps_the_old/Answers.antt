use Rattle.l6_steps.proofs.Examples.{get_keeps_the_old}
use Rattle.l6_steps.proofs.worked.get_keeps_the_old.Goals as goal

pub returns : goal.returns
returns c = get_keeps_the_old
