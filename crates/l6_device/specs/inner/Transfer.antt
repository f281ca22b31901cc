-- What one read of a part does.
use Rattle.std.specs.Prelude.{Option, ◌≡◌, ℕ, List, ◌++◌, length}
use Rattle.std.specs.Io.KnownBytes.{Consumes, IsAtEnd}
use Rattle.l6_device.specs.declared.fault.Part.{Part}
use Rattle.l6_device.specs.declared.fault.RunFault.{RunFault}
use Rattle.l6_device.specs.declared.fault.RunFault.TheVariants.{Read, NoMemory}

-- the reader gave so many bytes more, which were appended, and none only at its end
pub record GivesMore (old new : Option (List ℕ)) (bytes bytes' : List ℕ) (count : ℕ) : Type 0 where
  pub more : List ℕ
  pub given : Consumes old new more
  pub appended : bytes' ≡ bytes ++ more
  pub counted : length more ≡ count
  pub ended : count ≡ 0 → IsAtEnd new

-- a fault of one read of the part
abbrev pub IsReadFault : Part → RunFault → Type 0
IsReadFault part (Read which) = which ≡ part
IsReadFault part NoMemory = Unit {0}
IsReadFault part other = ⊥
