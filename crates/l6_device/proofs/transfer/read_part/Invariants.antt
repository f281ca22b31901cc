-- The bytes so far are all that the reader gave, at most one more than the limit, and it was
-- interrupted as often as was retried.
use Rattle.std.proofs.Common.{◌≡◌, ◌+◌, ◌-◌, ◌≤◌, false, [], ◌∷◌, vec_len}
use Rattle.std.specs.Io.KnownBytes.{Consumes}
use Rattle.l6_device.specs.Fault.{limit_of}
use Rattle.l6_device.specs.Patience.{Retries, device_use}
use Rattle.l6_device.proofs.transfer.read_part.Given as goal

abbrev pub invariant-loop-reader : goal.invariant-loop-reader
invariant-loop-reader g l = record {
  given : Consumes (g.R.Source.left l.initial.reader) (g.R.Source.left l.reader) l.bytes.items;
  within : vec_len l.bytes ≤ limit_of l.part + 1;
  repeated : Retries
      (device_use (g.R.Source.health l.initial.reader) (g.R.Source.health l.reader) false ∷ [])
      l.initial.patience l.patience;
  room : vec_len l.chunk ≡ vec_len l.initial.chunk;
}

abbrev pub decreases-loop-reader : goal.decreases-loop-reader
decreases-loop-reader g l = limit_of l.part + 1 - vec_len l.bytes
