use Rattle.l6_group.proofs.Cuts.{elements_cut, elements_lacks}
use Rattle.l6_group.proofs.parts.first_of.Goals as goal

pub returns-in-None-clause-first : goal.returns-in-None-clause-first
returns-in-None-clause-first c = elements_lacks c.args.columns.now c.in-None.ensures.none

pub returns-in-Some-clause-first : goal.returns-in-Some-clause-first
returns-in-Some-clause-first c = elements_cut c.in-Some.ensures.parts
