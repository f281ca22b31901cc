use Rattle.std.proofs.Common.{ℕ, ◌<◌, ◌^◌}
use Rattle.l6_trace.proofs.judge.least_level.Given as goal

-- no smaller block has so many words
abbrev pub invariant-loop-level : goal.invariant-loop-level
invariant-loop-level l = (lower : ℕ) → lower < l.level → 2 ^ lower < l.words
