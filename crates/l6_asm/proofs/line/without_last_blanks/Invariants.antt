use Rattle.std.proofs.Common.{◌≡◌, length}
use Rattle.l6_asm.specs.Listing.{without_last_blanks}
use Rattle.l6_asm.proofs.line.without_last_blanks.Given as goal

-- the line so far and the whole one are the same without the blanks at their ends
abbrev pub invariant-loop-last : goal.invariant-loop-last
invariant-loop-last l = without_last_blanks l.rest ≡ without_last_blanks l.line

abbrev pub decreases-loop-last : goal.decreases-loop-last
decreases-loop-last l = length l.rest
