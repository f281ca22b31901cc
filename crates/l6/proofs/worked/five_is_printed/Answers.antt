use Rattle.l6.proofs.Examples.{five_printed}
use Rattle.l6.proofs.worked.five_is_printed.Goals as goal

pub returns : goal.returns
returns c = five_printed c.scan_chooses.ensures
