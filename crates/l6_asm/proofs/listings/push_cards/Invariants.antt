use Rattle.std.proofs.Common.{◌≡◌, ◌++◌, length}
use Rattle.l6_asm.proofs.listings.push_cards.Given as goal

-- the text so far, with the lines that are left, is that of all lines
abbrev pub invariant-loop : goal.invariant-loop
invariant-loop l = l.fn.text.items ++ l.fn.lines ≡ l.text.items ++ l.lines

abbrev pub decreases-loop : goal.decreases-loop
decreases-loop l = length l.lines
