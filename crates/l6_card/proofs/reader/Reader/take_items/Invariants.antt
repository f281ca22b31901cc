use Rattle.std.proofs.Common.{◌≡◌, ◌+◌, ◌-◌, ◌≤◌, length, map}
use Rattle.l6_card.specs.Items.{items_of}
use Rattle.l6_card.specs.Pieces.{item, items_on}
use Rattle.l6_card.specs.inner.Pass.{after_pieces}
use Rattle.l6_card.specs.inner.Kinds.{body_seen}
use Rattle.l6_card.specs.inner.Reader.{stage_of}
use Rattle.l6_card.proofs.reader.Reader.take_items.Given as goal

-- the items that are left make of what is known now what all make of what was known
abbrev pub invariant-loop-columns : goal.invariant-loop-columns
invariant-loop-columns l = record {
  pass : after_pieces (stage_of l.self)
      (map (item l.card) (items_of (l.end - length l.rest) l.rest))
      ≡ after_pieces (stage_of l.fn.self) (items_on (body_seen l.fn.self.body));
  left : l.fn.self.body.offset + length l.rest ≤ l.end;
  stays : l.self.body ≡ l.fn.self.body;
}

abbrev pub decreases-loop-columns : goal.decreases-loop-columns
decreases-loop-columns l = length l.rest
