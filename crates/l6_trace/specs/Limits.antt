-- What the limit of calls says of a fault.
use Rattle.std.specs.Prelude.{◌<◌}
use Rattle.l6_trace.specs.Numerals.{most_calls}
use Rattle.l6_trace.specs.declared.fault.TraceFault.{TraceFault}
use Rattle.l6_trace.specs.declared.fault.TraceFault.TheVariants.{TooMany}

-- if a fault says that there are too many calls, then more lines than that are read, the one that it
-- names among them
abbrev pub IsPastLimit : TraceFault → Type 0
IsPastLimit (TooMany number) = most_calls < number
IsPastLimit other = Unit {0}
