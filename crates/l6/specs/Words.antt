-- Which fault the words of the command line have.
use Rattle.clap.specs.Values.{kind_of}
use Rattle.clap.specs.declared.error.Error.{Error}
use Rattle.clap.specs.declared.error.kind.ErrorKind.{ErrorKind}
use Rattle.clap.specs.declared.error.kind.ErrorKind.TheVariants.{OutOfMemory, UnknownArgument}
use Rattle.l6.specs.declared.arguments.WordsFault.{WordsFault}
use Rattle.l6.specs.declared.arguments.WordsFault.TheVariants.{Usage, Unexpected, NoMemory}

-- the fault of an objection of this kind: memory may have run out, or a word may be one that no command
-- takes
abbrev pub fault_by : ErrorKind → Error → WordsFault
fault_by OutOfMemory objection = NoMemory
fault_by UnknownArgument objection = Unexpected objection
fault_by kind objection = Usage objection

-- the fault of words to which there is an objection
abbrev pub fault_of : Error → WordsFault
fault_of objection = fault_by (kind_of objection) objection
