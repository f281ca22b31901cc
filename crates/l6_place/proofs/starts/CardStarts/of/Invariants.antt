use Rattle.std.proofs.Common.{◌≡◌, ◌≤◌, ◌-◌, ◌++◌, length}
use Rattle.l6_place.specs.inner.Starts.{starts_after, starts_of}
use Rattle.l6_place.proofs.starts.CardStarts.of.Given as goal

-- the starts that are found, and those that are left, are all
abbrev pub invariant-loop-first : goal.invariant-loop-first
invariant-loop-first l = record {
  all : l.starts.items ++ starts_after (length l.deck - length l.rest) l.line l.rest ≡ starts_of l.deck;
  within : length l.rest ≤ length l.deck;
  few : l.line ≤ length l.deck - length l.rest;
}

abbrev pub decreases-loop-first : goal.decreases-loop-first
decreases-loop-first l = length l.rest
