use Rattle.std.proofs.Common.{◌≡◌, ◌+◌, length}
use Rattle.l6_store.specs.Buddy.{listed}
use Rattle.l6_store.proofs.NextPlaces.{IsPlaceOf, left}
use Rattle.l6_store.proofs.piece.count_pieces.Given as goal

-- so many were counted, and those from the place on are left
abbrev pub invariant-loop-place : goal.invariant-loop-place
invariant-loop-place l =
    (l.count + left (listed l.arena.order l.level) l.place ≡ length (listed l.arena.order l.level))
    × IsPlaceOf (listed l.arena.order l.level) l.place

abbrev pub decreases-loop-place : goal.decreases-loop-place
decreases-loop-place l = left (listed l.arena.order l.level) l.place
