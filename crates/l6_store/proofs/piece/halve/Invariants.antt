use Rattle.std.proofs.Common.{◌≡◌, ℕ, ◌-◌, ◌^◌, ◌<◌, ◌≤◌, []}
use Rattle.l6_store.specs.Buddy.{listed}
use Rattle.l6_store.specs.inner.ArenaLayout.{IsBeside}
use Rattle.l6_store.specs.inner.Detached.{HalvesPiece}
use Rattle.l6_store.proofs.piece.halve.Given as goal

-- how often it was halved so far, and that the lists of the levels to come are empty
abbrev pub invariant-loop-now : goal.invariant-loop-now
invariant-loop-now l =
    IsBeside l.fn.arena l.arena
    × HalvesPiece l.fn.arena.units l.fn.arena.blocks l.level l.from
    (record { order = l.fn.arena.order; level = l.from; place = l.place })
    (record { order = l.arena.order; level = l.now; place = l.place }) (l.from - l.now)
    × ((k : ℕ) → l.level ≤ k → k < l.now → listed l.arena.order k ≡ [])
    × (l.size ≡ 2 ^ l.now)

abbrev pub decreases-loop-now : goal.decreases-loop-now
decreases-loop-now l = l.now
