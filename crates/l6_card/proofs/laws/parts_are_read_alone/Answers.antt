use Rattle.l6_card.proofs.Composing.{parts_compose}
use Rattle.l6_card.proofs.Shifting.{statements_object_alone}
use Rattle.l6_card.proofs.laws.parts_are_read_alone.Goals as goal

pub returns-clause-compose : goal.returns-clause-compose
returns-clause-compose c = parts_compose

pub returns-clause-alone : goal.returns-clause-alone
returns-clause-alone c = statements_object_alone
