-- The reader gave no byte so far, and was interrupted as often as was retried.
use Rattle.std.proofs.Common.{[], ◌∷◌, false}
use Rattle.std.specs.Io.KnownBytes.{Keeps}
use Rattle.l6_device.specs.Patience.{Retries, device_use}
use Rattle.l6_device.proofs.retrying.read_patiently.Given as goal

abbrev pub invariant-loop-count : goal.invariant-loop-count
invariant-loop-count g l = record {
  kept : Keeps (g.R.Source.left l.initial.reader) (g.R.Source.left l.reader);
  repeated : Retries
      (device_use (g.R.Source.health l.initial.reader) (g.R.Source.health l.reader) false ∷ [])
      l.initial.patience l.patience;
}

abbrev pub decreases-loop-count : goal.decreases-loop-count
decreases-loop-count g l = l.patience
