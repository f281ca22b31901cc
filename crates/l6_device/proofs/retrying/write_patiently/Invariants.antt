-- The writer took no byte so far, and was interrupted as often as was retried.
use Rattle.std.proofs.Common.{[], ◌∷◌, false}
use Rattle.std.specs.Io.KnownBytes.{Keeps}
use Rattle.l6_device.specs.Patience.{Retries, device_use}
use Rattle.l6_device.proofs.retrying.write_patiently.Given as goal

abbrev pub invariant-loop-count : goal.invariant-loop-count
invariant-loop-count g l = record {
  kept : Keeps (g.W.Sink.taken l.initial.writer) (g.W.Sink.taken l.writer);
  repeated : Retries
      (device_use (g.W.Sink.health l.initial.writer) (g.W.Sink.health l.writer) false ∷ [])
      l.initial.patience l.patience;
}

abbrev pub decreases-loop-count : goal.decreases-loop-count
decreases-loop-count g l = l.patience
