-- The faults of readers, as those of the loader.
use Rattle.l6_image.specs.declared.fault.LoadFault.{LoadFault}
use Rattle.l6_image.specs.declared.fault.LoadFault.TheVariants as loads
use Rattle.l6_image.specs.declared.fault.ReadFault.{ReadFault}
use Rattle.l6_image.specs.declared.fault.ReadFault.TheVariants as reads

-- the same fault
abbrev pub load_fault : ReadFault → LoadFault
load_fault reads.NotAnImage = loads.NotAnImage
load_fault reads.NoMemory = loads.NoMemory
