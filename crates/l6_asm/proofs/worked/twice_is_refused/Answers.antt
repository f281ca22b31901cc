use Rattle.l6_asm.proofs.Examples.{twice_refused}
use Rattle.l6_asm.proofs.worked.twice_is_refused.Goals as goal

pub returns : goal.returns
returns c = twice_refused
