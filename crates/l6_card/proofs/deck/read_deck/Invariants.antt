use Rattle.std.proofs.Common.{◌≡◌, ◌+◌, ◌≤◌, length}
use Rattle.l6_word.specs.Lines.{lines_of}
use Rattle.l6_card.specs.Numerals.{most_deck_bytes}
use Rattle.l6_card.specs.inner.Pass.{after_pieces, pass_of}
use Rattle.l6_card.specs.inner.Reader.{stage_of}
use Rattle.l6_card.proofs.Passes.{text_pieces, bytes_in}
use Rattle.l6_card.proofs.deck.read_deck.Given as goal

-- the cards that are left make of what is known what the deck makes of nothing
abbrev pub invariant-loop-line : goal.invariant-loop-line
invariant-loop-line l = record {
  pass : after_pieces (stage_of l.reader) (text_pieces (l.card + 1) l.offset l.rest)
      ≡ pass_of l.deck;
  numbers : l.card + length l.rest ≤ most_deck_bytes;
  offsets : l.offset + bytes_in (lines_of l.rest) ≤ most_deck_bytes + 1;
}

abbrev pub decreases-loop-line : goal.decreases-loop-line
decreases-loop-line l = length l.rest
