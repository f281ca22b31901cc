-- The writer has taken the first `count` bytes, and was interrupted as often as was retried. An
-- empty text leaves it as it was.
use Rattle.std.proofs.Common.{◌≡◌, ◌-◌, ◌≤◌, false, [], ◌∷◌, length, take}
use Rattle.std.specs.Io.KnownBytes.{Appends}
use Rattle.l6_device.specs.Patience.{Retries, device_use}
use Rattle.l6_device.proofs.transfer.write_text.Given as goal

abbrev pub invariant-loop-count : goal.invariant-loop-count
invariant-loop-count g l = record {
  within : l.count ≤ length l.text;
  front : Appends (g.W.Sink.taken l.initial.writer) (g.W.Sink.taken l.writer) (take l.count l.text);
  repeated : Retries
      (device_use (g.W.Sink.health l.initial.writer) (g.W.Sink.health l.writer) false ∷ [])
      l.initial.patience l.patience;
  unasked : length l.text ≡ 0
      → (l.writer ≡ l.initial.writer) × (l.patience ≡ l.initial.patience);
}

abbrev pub decreases-loop-count : goal.decreases-loop-count
decreases-loop-count g l = length l.text - l.count
