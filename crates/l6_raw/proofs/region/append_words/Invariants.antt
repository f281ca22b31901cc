use Rattle.std.proofs.Common.{◌≡◌, ◌++◌, take}
use Rattle.l6_raw.proofs.region.append_words.Given as goal

abbrev pub invariant-loop-word : goal.invariant-loop-word
invariant-loop-word l = record {
  words : l.memory.words ≡ l.fn.memory.words ++ take l.word-index l.words;
  room : l.memory.room ≡ l.fn.memory.room;
  start : l.memory.start ≡ l.fn.memory.start;
}
