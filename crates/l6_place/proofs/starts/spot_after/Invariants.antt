use Rattle.std.proofs.Common.{◌≡◌, ◌≤◌, ◌-◌, ◌+◌, ◌*◌, length}
use Rattle.l6_place.specs.Cards as spec
use Rattle.l6_place.proofs.starts.spot_after.Given as goal

-- the place after what is left is the same
abbrev pub invariant-loop-first : goal.invariant-loop-first
invariant-loop-first l = record {
  value : spec.spot_after l.spot l.left l.rest ≡ spec.spot_after (spec.line_spot l.line) l.count l.text;
  within : length l.rest ≤ length l.text;
  lines : l.spot.line ≤ l.line + (length l.text - length l.rest);
  units : l.spot.character ≤ 2 * (length l.text - length l.rest);
}

abbrev pub decreases-loop-first : goal.decreases-loop-first
decreases-loop-first l = length l.rest
