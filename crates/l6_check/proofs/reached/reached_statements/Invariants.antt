use Rattle.std.proofs.Common.{◌+◌, length}
use Rattle.l6_check.proofs.Reaching.{IsSearch, left_at}
use Rattle.l6_check.proofs.reached.reached_statements.Given as goal

-- the search goes on
abbrev pub invariant-loop-number : goal.invariant-loop-number
invariant-loop-number l =
    IsSearch l.program l.reached.items l.pending.items

-- each turn takes a pending number off, or marks a statement
abbrev pub decreases-loop-number : goal.decreases-loop-number
decreases-loop-number l = left_at l.program l.reached.items + length l.pending.items
