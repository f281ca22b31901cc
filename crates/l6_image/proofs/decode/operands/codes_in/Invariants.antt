use Rattle.std.proofs.Common.{◌≡◌, ◌≤◌, take, length}
use Rattle.std.specs.List.{flat_map}
use Rattle.l6_prog.specs.Numerals.{most_characters}
use Rattle.l6_image.specs.inner.decode.Fields.{items_in}
use Rattle.l6_image.proofs.decode.operands.codes_in.Given as goal

-- the codes so far, which are not too many
abbrev pub invariant-loop-word : goal.invariant-loop-word
invariant-loop-word l = record {
  codes : l.codes.items ≡ flat_map items_in (take l.word-index l.words);
  few : length l.codes.items ≤ most_characters;
}
