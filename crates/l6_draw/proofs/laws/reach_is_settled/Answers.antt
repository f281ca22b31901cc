use Rattle.l6_draw.proofs.Reaching.{reach_decided, reach_settled}
use Rattle.l6_draw.proofs.laws.reach_is_settled.Goals as goal

pub returns-clause-decided : goal.returns-clause-decided
returns-clause-decided c = reach_decided

pub returns-clause-settled : goal.returns-clause-settled
returns-clause-settled c = reach_settled
