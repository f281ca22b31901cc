use Rattle.std.proofs.Common.{◌≡◌, take, None}
use Rattle.l6_check.specs.Near.{first_given}
use Rattle.l6_check.proofs.nearest.nearest_given.Given as goal

-- none of the labels so far is nearly this one
abbrev pub invariant-loop-place : goal.invariant-loop-place
invariant-loop-place l = first_given (take l.place l.given.entries) l.label ≡ None
