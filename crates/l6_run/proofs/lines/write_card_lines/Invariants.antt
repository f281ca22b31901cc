use Rattle.std.proofs.Common.{◌≡◌, ◌+◌, ◌≤◌, false, true, if◌then◌else◌, [], ◌∷◌, length}
use Rattle.std.specs.Vec.{vec_capacity}
use Rattle.l6_asm.specs.declared.line.TheConstants.{MAX_LINE_BYTES}
use Rattle.l6_device.specs.Patience.{Retries, device_use}
use Rattle.l6_run.proofs.WordLines.{WrittenTo}
use Rattle.l6_run.proofs.lines.write_card_lines.Given as goal

-- the lines before those that are left have gone out, and the writer was interrupted as often as was
-- retried
abbrev pub invariant-loop-is_over : goal.invariant-loop-is_over
invariant-loop-is_over g l = record {
  room : MAX_LINE_BYTES ≤ vec_capacity l.lines;
  written : WrittenTo l.initial.cards l.cards l.sent
      (g.W.Sink.taken l.initial.writer) (g.W.Sink.taken l.writer);
  ended : l.is_over ≡ true → l.cards ≡ [];
  retried : Retries
      (device_use (g.W.Sink.health l.initial.writer) (g.W.Sink.health l.writer) false ∷ [])
      l.initial.patience l.patience;
}

abbrev pub decreases-loop-is_over : goal.decreases-loop-is_over
decreases-loop-is_over g l = if l.is_over then 0 else length l.cards + 1
