use Rattle.l6.proofs.Examples.{five_spelled}
use Rattle.l6.proofs.worked.five_is_spelled.Goals as goal

pub returns : goal.returns
returns c = five_spelled
