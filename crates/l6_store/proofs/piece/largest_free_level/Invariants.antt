use Rattle.std.proofs.Common.{◌≡◌, ℕ, ◌<◌, ◌≤◌, []}
use Rattle.l6_word.specs.Numerals.{largest_level}
use Rattle.l6_store.specs.Buddy.{listed}
use Rattle.l6_store.proofs.piece.largest_free_level.Given as goal

-- no level above has a free piece
abbrev pub invariant-loop-level : goal.invariant-loop-level
invariant-loop-level l =
    (l.level ≤ largest_level)
    × ((higher : ℕ) → l.level < higher → listed l.arena.order higher ≡ [])

abbrev pub decreases-loop-level : goal.decreases-loop-level
decreases-loop-level l = l.level
