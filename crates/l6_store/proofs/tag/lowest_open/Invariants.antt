use Rattle.std.proofs.Common.{◌*◌, ℕ, ◌^◌, ◌<◌}
use Rattle.l6_store.specs.inner.PlaceTags.{IsVacantRun}
use Rattle.l6_store.proofs.tag.lowest_open.Given as goal

-- no block of the level may be lower
abbrev pub invariant-loop-number : goal.invariant-loop-number
invariant-loop-number l =
    (lower : ℕ) → lower < l.number * 2 ^ l.level → IsVacantRun l.tags (2 ^ l.level) lower → ⊥
