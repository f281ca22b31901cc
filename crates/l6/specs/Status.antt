-- Exit statuses.
use Rattle.std.specs.Prelude.{ℕ, ◌==◌, Result, Ok, Err, if◌then◌else◌}
use Rattle.l6_image.specs.declared.fault.LoadFault.TheVariants as load
use Rattle.l6_machine.specs.declared.ending.Ending.{Ending}
use Rattle.l6_machine.specs.declared.ending.Ending.TheVariants.{Done, Fail, Trap, Limit}
use Rattle.l6_asm.specs.declared.fault.AsmFault.TheVariants as asm
use Rattle.l6_device.specs.declared.fault.RunFault.{RunFault}
use Rattle.l6_device.specs.declared.fault.RunFault.TheVariants.{TooLong, Asm, Load, Read, Write, NoMemory}
use Rattle.l6.specs.declared.arguments.WordsFault.{WordsFault}
use Rattle.l6.specs.declared.arguments.WordsFault.TheVariants as words
use Rattle.l6.specs.declared.job.Outcome.{Outcome}
use Rattle.l6.specs.declared.job.Outcome.TheVariants.{Checked, Explained, Ran, Written}

-- the exit status of a run that ended by DONE or by FAIL, trapped, or was stopped at its limit
abbrev pub status_of_ending : Ending → ℕ
status_of_ending Done = 0
status_of_ending Fail = 1
status_of_ending (Trap trap) = 2
status_of_ending Limit = 3

-- the exit status of the program: of a text that was written; of a deck that was checked, by whether it
-- has errors; of a run, also if it is explained; of a job that was refused; and where memory or a device failed
abbrev pub status_of : Result Outcome RunFault → ℕ
status_of (Ok Written) = 0
status_of (Ok (Checked errors)) = if errors == 0 then 0 else 4
status_of (Ok (Ran ending)) = status_of_ending ending
status_of (Ok (Explained explained)) = status_of_ending explained.ending
status_of (Err (TooLong part)) = 4
status_of (Err (Asm asm.NoMemory)) = 5
status_of (Err (Asm fault)) = 4
status_of (Err (Load load.NoMemory)) = 5
status_of (Err (Load fault)) = 4
status_of (Err (Read part)) = 5
status_of (Err (Write count)) = 5
status_of (Err NoMemory) = 5

-- the exit status where the words of the command line ask for nothing that can be done
abbrev pub status_of_words : WordsFault → ℕ
status_of_words words.NoMemory = 5
status_of_words fault = 64
