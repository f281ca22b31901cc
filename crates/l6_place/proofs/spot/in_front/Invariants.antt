use Rattle.std.proofs.Common.{◌≡◌, ◌≤◌, ◌+◌, ◌-◌, length}
use Rattle.l6_place.specs.Spot as spec
use Rattle.l6_place.proofs.spot.in_front.Given as goal

-- the units that are left are at the front of the rest
abbrev pub invariant-loop-first : goal.invariant-loop-first
invariant-loop-first l = record {
  value : (length l.text - length l.rest) + spec.in_front l.left l.rest ≡ spec.in_front l.units l.text;
  within : length l.rest ≤ length l.text;
}

abbrev pub decreases-loop-first : goal.decreases-loop-first
decreases-loop-first l = length l.rest
