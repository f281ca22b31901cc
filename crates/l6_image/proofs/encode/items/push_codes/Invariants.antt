use Rattle.std.proofs.Common.{◌≡◌, ◌++◌, length}
use Rattle.l6_image.specs.Row.{sixes}
use Rattle.l6_image.proofs.encode.items.push_codes.Given as goal

-- after what is written belong the words of the codes that are left
abbrev pub invariant-loop-rest : goal.invariant-loop-rest
invariant-loop-rest l = l.words.items ++ sixes l.rest ≡ l.fn.words.items ++ sixes l.fn.codes

abbrev pub decreases-loop-rest : goal.decreases-loop-rest
decreases-loop-rest l = length l.rest
