use Rattle.std.proofs.Common.{ap}
use Rattle.l6_store.specs.Store.{Store}
use Rattle.l6_store.proofs.scan_store.ScanStorePlaces.moves.Goals as goal

pub returns-clause-value : goal.returns-clause-value
returns-clause-value c = ap (λ (s : Store). s.moves) c.self.view_is
