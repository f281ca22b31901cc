use Rattle.l6_card.proofs.WholeItems.{whole_denote, denote_whole, denote_one}
use Rattle.l6_card.proofs.laws.whole_items_denote_statements.Goals as goal

pub returns : goal.returns
returns c = record { denote = whole_denote; whole = denote_whole; one = denote_one }
