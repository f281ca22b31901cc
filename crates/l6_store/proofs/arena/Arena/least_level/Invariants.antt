use Rattle.std.proofs.Common.{◌≡◌, ℕ, ◌<◌, ◌≤◌, get_or}
use Rattle.l6_store.proofs.arena.Arena.least_level.Given as goal

-- no level before it has a head
abbrev pub invariant-loop-found : goal.invariant-loop-found
invariant-loop-found l = (k : ℕ) → l.level ≤ k → k < l.found → get_or l.self.heads k 0 ≡ 0
