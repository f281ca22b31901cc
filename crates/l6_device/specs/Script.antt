-- What a scripted device answers to its calls.
use Rattle.std.specs.Prelude.{ℕ, Option, Some, None, Result, Ok, Err, nat_le, nat_lt, min, max, if◌then◌else◌}
use Rattle.l6_device.specs.declared.device.Trouble.{Trouble}
use Rattle.l6_device.specs.declared.device.Trouble.TheVariants.{Interrupted, Failed}

-- the trouble of the call of this number, counted from 0: so many first calls are interrupted
abbrev pub interruption_at : ℕ → ℕ → Option Trouble
interruption_at interruptions call = if nat_lt call interruptions then Some Interrupted else None

-- from the call of the number `failing` on each one fails, also an interrupted one
abbrev pub trouble_at : ℕ → Option ℕ → ℕ → Option Trouble
trouble_at interruptions None call = interruption_at interruptions call
trouble_at interruptions (Some failing) call =
    if nat_le failing call then Some Failed else interruption_at interruptions call

-- how many of the bytes that are asked for a call may move at most, but one at least; or its trouble
abbrev pub room_for : ℕ → ℕ → Option Trouble → Result ℕ Trouble
room_for asked most None = Ok (min asked (max most 1))
room_for asked most (Some trouble) = Err trouble
