use Rattle.l6_card.proofs.Beginnings.{hold_to_grow, whole_begins}
use Rattle.l6_card.proofs.laws.prefixes_begin_statements.Goals as goal

pub returns : goal.returns
returns c = record { become_whole = hold_to_grow; are_prefixes = whole_begins }
