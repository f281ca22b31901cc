use Rattle.std.proofs.Common.{◌≡◌, length}
use Rattle.l6_place.proofs.groups.Groups.next_on_card.Given as goal

-- the lines after the card stay
abbrev pub invariant-loop-self : goal.invariant-loop-self
invariant-loop-self l = l.self.lines.now ≡ l.fn.self.lines.now

abbrev pub decreases-loop-self : goal.decreases-loop-self
decreases-loop-self l = length l.self.rest.now
