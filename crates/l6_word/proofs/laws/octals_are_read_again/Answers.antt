use Rattle.l6_word.proofs.Octals.{octals_are_read_again}
use Rattle.l6_word.proofs.laws.octals_are_read_again.Goals as goal

pub returns : goal.returns
returns c = octals_are_read_again
