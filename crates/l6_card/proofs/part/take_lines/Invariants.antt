use Rattle.std.proofs.Common.{◌≡◌, ◌+◌, ◌≤◌, length, take}
use Rattle.l6_word.specs.Lines.{lines_of}
use Rattle.l6_card.specs.Numerals.{most_deck_bytes}
use Rattle.l6_card.specs.inner.Pass.{after_pieces}
use Rattle.l6_card.specs.inner.Reader.{stage_of}
use Rattle.l6_card.proofs.Passes.{bytes_in}
use Rattle.l6_card.proofs.PartPasses.{line_pieces}
use Rattle.l6_card.proofs.part.take_lines.Given as goal

-- the cards that are left make of what is known now what all make of what was known
abbrev pub invariant-loop-left : goal.invariant-loop-left
invariant-loop-left l = record {
  pass : after_pieces (stage_of l.reader) (line_pieces (l.card + 1) l.offset (take l.left (lines_of l.rest)))
      ≡ after_pieces (stage_of l.fn.reader) (line_pieces (l.before + 1) 0 (take l.count (lines_of l.text)));
  numbers : l.card + length l.rest ≤ most_deck_bytes;
  offsets : l.offset + bytes_in (lines_of l.rest) ≤ most_deck_bytes + 1;
}

abbrev pub decreases-loop-left : goal.decreases-loop-left
decreases-loop-left l = length l.rest
