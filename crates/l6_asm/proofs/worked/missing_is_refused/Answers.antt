use Rattle.l6_asm.proofs.Examples.{missing_refused}
use Rattle.l6_asm.proofs.worked.missing_is_refused.Goals as goal

pub returns : goal.returns
returns c = missing_refused
