use Rattle.std.proofs.Common.{◌-◌}
use Rattle.l6_word.specs.Numerals.{largest_level}
use Rattle.l6_store.specs.inner.ArenaLayout.{IsBeside}
use Rattle.l6_store.specs.inner.Detached.{JoinsPiece}
use Rattle.l6_store.proofs.piece.join_often.Given as goal

-- how often it was joined so far
abbrev pub invariant-loop-arena : goal.invariant-loop-arena
invariant-loop-arena l =
    IsBeside l.fn.arena l.arena
    × JoinsPiece l.fn.arena.units l.fn.arena.blocks l.level
    (record { order = l.fn.arena.order; level = l.level; place = l.fn.place })
    (record { order = l.arena.order; level = l.now; place = l.place }) (l.now - l.level)

abbrev pub decreases-loop-arena : goal.decreases-loop-arena
decreases-loop-arena l = largest_level - l.now
