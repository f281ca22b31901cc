-- Exit statuses: of what is no session, or ends one early, and of a session that ends.
use Rattle.std.specs.Prelude.{ℕ, ◌&&◌, Bool, if◌then◌else◌}
use Rattle.l6_device.specs.declared.fault.RunFault.TheVariants.{TooLong}
use Rattle.l6db.specs.declared.fault.DbFault.{DbFault}
use Rattle.l6db.specs.declared.fault.DbFault.TheVariants.{Usage, Asked, NotText, NoFile, Deck, Job, NoInput, NoOutput, NoMemory}

-- where help or the version is asked for; where the job is refused; where memory or a device failed; and
-- where the words of the command line are wrong
abbrev pub status_of : DbFault → ℕ
status_of (Asked text) = 0
status_of (NoFile part path reason) = 4
status_of (Deck text) = 4
status_of (Job (TooLong part)) = 4
status_of (Job fault) = 5
status_of NoInput = 5
status_of NoOutput = 5
status_of NoMemory = 5
status_of (Usage text) = 64
status_of NotText = 64

-- of a session that ends: whether it is a batch, and whether a line was refused
abbrev pub ending_status : Bool → Bool → ℕ
ending_status is_batch is_refused = if is_batch && is_refused then 1 else 0
