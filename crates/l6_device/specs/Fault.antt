-- The parts of a job, and why a job is not done.
use Rattle.std.specs.Prelude.{ℕ, List, codes}
use Rattle.l6_image.specs.Numerals.{most_bytes}
use Rattle.l6_image.specs.declared.fault.LoadFault.{LoadFault}
use Rattle.l6_image.specs.declared.fault.LoadFault.TheVariants as load
use Rattle.l6_steps.specs.Numerals.{most_input}
use Rattle.l6_card.specs.Numerals.{most_deck_bytes}
use Rattle.l6_asm.specs.declared.fault.AsmFault.{AsmFault}
use Rattle.l6_asm.specs.declared.fault.AsmFault.TheVariants as asm
use Rattle.l6_device.specs.Numerals.{most_command_bytes, most_job_bytes}
use Rattle.l6_device.specs.declared.fault.Part.{Part}
use Rattle.l6_device.specs.declared.fault.Part.TheVariants.{Deck, Image, Input, Commands, Job}
use Rattle.l6_device.specs.declared.fault.RunFault.{RunFault}
use Rattle.l6_device.specs.declared.fault.RunFault.TheVariants.{Asm, Load, NoMemory}

-- the most bytes that a part may have
abbrev pub limit_of : Part → ℕ
limit_of Deck = most_deck_bytes
limit_of Image = most_bytes
limit_of Input = most_input
limit_of Commands = most_command_bytes
limit_of Job = most_job_bytes

-- the word for a part in the line of a fault
abbrev pub part_text : Part → List ℕ
part_text Deck = codes "deck"
part_text Image = codes "image"
part_text Input = codes "input"
part_text Commands = codes "commands"
part_text Job = codes "job"

-- why a job is not done whose deck was not assembled: out of memory is reported as such
abbrev pub unassembled : AsmFault → RunFault
unassembled asm.NoMemory = NoMemory
unassembled fault = Asm fault

-- why a job is not done whose image was not loaded: out of memory is reported as such
abbrev pub unloaded : LoadFault → RunFault
unloaded load.NoMemory = NoMemory
unloaded fault = Load fault
