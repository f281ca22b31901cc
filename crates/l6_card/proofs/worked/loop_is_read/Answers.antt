use Rattle.l6_card.proofs.Examples.{loop_read}
use Rattle.l6_card.proofs.worked.loop_is_read.Goals as goal

pub returns : goal.returns
returns c = loop_read
