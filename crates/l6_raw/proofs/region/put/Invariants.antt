use Rattle.std.proofs.Common.{◌≡◌, take}
use Rattle.l6_raw.specs.Words.{overwritten}
use Rattle.l6_raw.proofs.region.put.Given as goal

abbrev pub invariant-loop-done : goal.invariant-loop-done
invariant-loop-done l = record {
  words : l.memory.words ≡ overwritten l.fn.memory.words l.index (take l.done l.words);
  room : l.memory.room ≡ l.fn.memory.room;
  start : l.memory.start ≡ l.fn.memory.start;
}
