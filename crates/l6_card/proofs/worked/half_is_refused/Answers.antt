use Rattle.l6_card.proofs.Examples.{half_refused}
use Rattle.l6_card.proofs.worked.half_is_refused.Goals as goal

pub returns : goal.returns
returns c = half_refused
