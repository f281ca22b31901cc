-- Why there is no text to write, of something that is not too long.
use Rattle.l6_device.specs.declared.fault.RunFault.{RunFault}
use Rattle.l6_device.specs.declared.fault.RunFault.TheVariants.{TooLong, NoMemory}

-- out of memory says nothing of what was given, and nothing has gone out yet; any other fault
-- refuses what was given
abbrev pub HasNoText : (RunFault → Type 0) → RunFault → Type 0
HasNoText Refuses NoMemory = Unit {0}
HasNoText Refuses (TooLong part) = ⊥
HasNoText Refuses fault = Refuses fault
