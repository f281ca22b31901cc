use Rattle.std.proofs.Common.{◌≡◌, ◌+◌, ◌*◌, ◌≤◌, ◌++◌, length, take}
use Rattle.std.specs.List.{flat_map}
use Rattle.std.specs.Vec.{vec_capacity}
use Rattle.l6_image.specs.Text.{word_line}
use Rattle.l6_image.proofs.text.push_lines.Given as goal

-- the lines of the words so far, each of 13 bytes, are appended
abbrev pub invariant-loop-word : goal.invariant-loop-word
invariant-loop-word l = record {
  lines : l.lines.items ≡ l.initial.lines.items ++ flat_map word_line (take l.word-index l.words);
  count : length l.lines.items ≡ length l.initial.lines.items + l.word-index * 13;
  capacity : vec_capacity l.initial.lines ≤ vec_capacity l.lines;
}
