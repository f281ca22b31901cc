use Rattle.std.proofs.Common.{◌-◌}
use Rattle.l6_draw.proofs.Scanning.{Scanned}
use Rattle.l6_draw.proofs.blocks.places.Given as goal

abbrev pub invariant-loop-place : goal.invariant-loop-place
invariant-loop-place g l = Scanned (g.S.Places.store l.store).blocks l.place l.places.items

abbrev pub decreases-loop-place : goal.decreases-loop-place
decreases-loop-place g l = l.end - l.place
