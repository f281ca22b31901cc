use Rattle.std.proofs.Common.{subst}
use Rattle.l6_store.specs.Scan.{scan_rule}
use Rattle.l6_store.specs.Store.{Store, IsSound}
use Rattle.l6_store.proofs.Kept.{sound_of}
use Rattle.l6_store.proofs.scan_store.ScanStorePlaces.units.Goals as goal

pub returns-clause-sound : goal.returns-clause-sound
returns-clause-sound c =
    subst (λ (s : Store). IsSound scan_rule s) c.self.view_is
    (sound_of c.self.inside.units c.self.inside.tags.items c.self.inside.words.items
    c.self.invariant.kept)
