use Rattle.std.proofs.Common.{◌≡◌, ◌++◌, List, ℕ, true, length}
use Rattle.std.specs.Str.{byte}
use Rattle.l6_word.specs.Split.{lacks}
use Rattle.l6_word.proofs.split.skip_blocks.Given as goal

-- what is in front of the rest has no line feed
abbrev pub invariant-loop-rest : goal.invariant-loop-rest
invariant-loop-rest l =
    (front : List ℕ) × (l.fn.text ≡ front ++ l.rest) × (lacks (byte "\n") front ≡ true)

abbrev pub decreases-loop-rest : goal.decreases-loop-rest
decreases-loop-rest l = length l.rest
