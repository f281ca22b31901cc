use Rattle.l6_trace.proofs.SameOpen.{same_open}
use Rattle.l6_trace.proofs.laws.boards_are_stores.Goals as goal

pub returns : goal.returns
returns c = same_open
