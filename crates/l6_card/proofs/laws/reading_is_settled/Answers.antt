use Rattle.l6_card.proofs.Settling.{reads_only_without_fault, reads_without_fault, reads_in_one_way}
use Rattle.l6_card.proofs.laws.reading_is_settled.Goals as goal

pub returns-clause-reads_only_if : goal.returns-clause-reads_only_if
returns-clause-reads_only_if c = reads_only_without_fault

pub returns-clause-reads_if : goal.returns-clause-reads_if
returns-clause-reads_if c = reads_without_fault

pub returns-clause-one_way : goal.returns-clause-one_way
returns-clause-one_way c = reads_in_one_way
