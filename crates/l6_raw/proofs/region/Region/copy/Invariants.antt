use Rattle.std.proofs.Common.{◌≡◌, ◌+◌, slice_range}
use Rattle.l6_raw.specs.Words.{overwritten}
use Rattle.l6_raw.proofs.region.Region.copy.Given as goal

abbrev pub invariant-loop-done : goal.invariant-loop-done
invariant-loop-done l =
    l.self ≡ overwritten l.fn.self l.to (slice_range l.fn.self l.from (l.from + l.done))
