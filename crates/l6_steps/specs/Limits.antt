-- The limits of a run.
use Rattle.std.specs.Prelude.{Bool, ◌&&◌, nat_le}
use Rattle.l6_steps.specs.Numerals.{most_steps, most_output}
use Rattle.l6_steps.specs.declared.limits.Limits.{Limits}

-- a run may be allowed so many steps, and so many bytes of output
abbrev pub are_allowed : Limits → Bool
are_allowed limits = nat_le limits.steps most_steps && nat_le limits.output most_output
