use Rattle.std.proofs.Common.{◌≡◌, ◌++◌, replicate}
use Rattle.l6_raw.proofs.region.append_zeros.Given as goal

abbrev pub invariant-loop : goal.invariant-loop
invariant-loop l = record {
  words : l.memory.words ≡ l.fn.memory.words ++ replicate l.counter 0;
  room : l.memory.room ≡ l.fn.memory.room;
  start : l.memory.start ≡ l.fn.memory.start;
}
