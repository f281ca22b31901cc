-- What a device remembers of its troubles.
use Rattle.std.specs.Prelude.{ℕ, ◌+◌, Bool, true, ◌&&◌, ◌==◌, nat_lt, List, length, Result, Ok, Err, if◌then◌else◌}
use Rattle.l6_device.specs.declared.device.Trouble.{Trouble}
use Rattle.l6_device.specs.declared.device.Trouble.TheVariants.{Interrupted, Failed}

-- how often a device answered `Interrupted`, and whether it has failed
pub record Health : Type 0 where
  pub interruptions : ℕ
  pub has_failed : Bool

-- an interruption is counted, and a failure remembered
abbrev pub after_trouble : Health → Trouble → Health
after_trouble old Interrupted = record old { interruptions = old.interruptions + 1 }
after_trouble old Failed = record old { has_failed = true }

-- after a read, which answered so many bytes, or trouble
abbrev pub after_read : Health → Result ℕ Trouble → Health
after_read old (Ok count) = old
after_read old (Err trouble) = after_trouble old trouble

-- after a write of these bytes: a writer that takes none of some has failed
abbrev pub after_write : Health → List ℕ → Result ℕ Trouble → Health
after_write old bytes (Ok count) =
    if count == 0 && nat_lt 0 (length bytes) then after_trouble old Failed else old
after_write old bytes (Err trouble) = after_trouble old trouble
