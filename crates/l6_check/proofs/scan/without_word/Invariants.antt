use Rattle.std.proofs.Common.{length}
use Rattle.l6_check.proofs.scan.without_word.Given as goal

abbrev pub decreases-loop-byte : goal.decreases-loop-byte
decreases-loop-byte l = length l.rest
