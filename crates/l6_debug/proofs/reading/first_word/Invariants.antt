use Rattle.std.proofs.Common.{◌≡◌, length}
use Rattle.l6_debug.specs.Command.{words_in}
use Rattle.l6_debug.proofs.reading.first_word.Given as goal

-- the rest has the words of the line
abbrev pub invariant-loop-word : goal.invariant-loop-word
invariant-loop-word l = words_in l.rest ≡ words_in l.line

abbrev pub decreases-loop-word : goal.decreases-loop-word
decreases-loop-word l = length l.rest
