-- The exit statuses of the program.
use Rattle.std.specs.Prelude.{ℕ}
use Rattle.l6ed.specs.declared.fault.EdFault.{EdFault}
use Rattle.l6ed.specs.declared.fault.EdFault.TheVariants.{Usage, Malformed, NoInput, NoOutput, NoMemory}

-- the exit status after a fault: 4 if what came is no message, 5 if memory ran out or a device failed, 64 if the words
-- are wrong
abbrev pub status_of : EdFault → ℕ
status_of Malformed = 4
status_of NoInput = 5
status_of NoOutput = 5
status_of NoMemory = 5
status_of Usage = 64
