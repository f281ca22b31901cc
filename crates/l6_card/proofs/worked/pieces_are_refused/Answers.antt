use Rattle.l6_card.proofs.Examples.{test_refused, word_refused}
use Rattle.l6_card.proofs.worked.pieces_are_refused.Goals as goal

pub returns-clause-group : goal.returns-clause-group
returns-clause-group c = test_refused

pub returns-clause-word : goal.returns-clause-word
returns-clause-word c = word_refused
