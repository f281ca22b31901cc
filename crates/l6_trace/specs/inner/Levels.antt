-- The levels of blocks that a pool may have, and where it ends.
use Rattle.std.specs.Prelude.{◌≡◌, ℕ, ◌+◌, ◌*◌, ◌^◌, ◌<◌, ◌≤◌, ◌⊎◌, Option, Some, None}
use Rattle.l6_trace.specs.Numerals.{largest_pool_level, most_places}
use Rattle.l6_trace.specs.declared.judge.Pool.{Pool}

-- a level is at most the largest, if there is one
abbrev pub IsWithin : ℕ → Option ℕ → Type 0
IsWithin largest (Some level) = level ≤ largest
IsWithin largest None = Unit {0}

-- the place after the last one, or none where a pool is out of range
abbrev pub IsEnd : Pool → Option ℕ → Type 0
IsEnd pool (Some end) =
    (pool.largest ≤ largest_pool_level) × (end ≡ pool.first + pool.units * 2 ^ pool.largest)
    × (end ≤ most_places)
IsEnd pool None =
    (largest_pool_level < pool.largest) ⊎ (most_places < pool.first + pool.units * 2 ^ pool.largest)
