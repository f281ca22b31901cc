use Rattle.l6_store.proofs.Scan.{scan_picks_the_lowest}
use Rattle.l6_store.proofs.laws.scan_picks_the_lowest.Goals as goal

pub returns : goal.returns
returns c = scan_picks_the_lowest
