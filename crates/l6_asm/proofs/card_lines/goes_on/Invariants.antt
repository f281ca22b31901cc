use Rattle.std.proofs.Common.{◌≡◌, length}
use Rattle.l6_word.specs.Lines.{lines_of}
use Rattle.l6_asm.specs.Listing.{goes_on}
use Rattle.l6_asm.proofs.card_lines.goes_on.Given as goal

-- the cards so far are skipped, so what is left has the same fault as all
abbrev pub invariant-loop-line : goal.invariant-loop-line
invariant-loop-line l = goes_on (lines_of l.rest) ≡ goes_on (lines_of l.text)

abbrev pub decreases-loop-line : goal.decreases-loop-line
decreases-loop-line l = length l.rest
