use Rattle.l6_asm.proofs.Settling.{spells_or_fails, never_both, spells_in_one_way}
use Rattle.l6_asm.proofs.laws.spelling_is_settled.Goals as goal

pub returns-clause-either : goal.returns-clause-either
returns-clause-either c = spells_or_fails

pub returns-clause-never_both : goal.returns-clause-never_both
returns-clause-never_both c = never_both

pub returns-clause-one_way : goal.returns-clause-one_way
returns-clause-one_way c = spells_in_one_way
