use Rattle.std.proofs.Common.{◌≡◌, ◌+◌, drop}
use Rattle.std.specs.List.{sum_by}
use Rattle.l6_draw.proofs.Summing.{size_in}
use Rattle.l6_draw.proofs.store_maps.used_in.Given as goal

-- the words so far, with those of the blocks left, are those of all blocks
abbrev pub invariant-loop-place : goal.invariant-loop-place
invariant-loop-place g l =
    l.used + sum_by (size_in (g.S.Places.store l.store).blocks) (drop l.place-index l.places)
    ≡ sum_by (size_in (g.S.Places.store l.store).blocks) l.places
