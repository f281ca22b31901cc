-- Elements that are read up to the room that there is for them.
use Rattle.std.specs.Prelude.{ℕ, ◌<◌, List, length, Option, Some, None}

-- nothing was read, or more than there is room for
abbrev pub IsReadUpTo : ℕ → Option (List ℕ) → Type 0
IsReadUpTo room None = Unit {0}
IsReadUpTo room (Some given) = room < length given
