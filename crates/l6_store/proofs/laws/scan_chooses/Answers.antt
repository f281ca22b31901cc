use Rattle.l6_store.proofs.Scan.{scan_chooses}
use Rattle.l6_store.proofs.laws.scan_chooses.Goals as goal

pub returns : goal.returns
returns c = scan_chooses
