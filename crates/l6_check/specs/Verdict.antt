-- What the errors of a deck say of it.
use Rattle.std.specs.Prelude.{◌≡◌, ℕ, true, List, is_some, Option, Some, None}
use Rattle.l6_prog.specs.Statement.{Parts}
use Rattle.l6_asm.specs.AssemblyFault.{AssemblyFault, assembly_fault}
use Rattle.l6_asm.specs.declared.fault.AsmFault.{AsmFault}
use Rattle.l6_asm.specs.Assembled.{Assembled}
use Rattle.l6_asm.specs.Spells.{SpellsJust, IsUnspelled}
use Rattle.l6_check.specs.declared.finding.Finding.{Finding}
use Rattle.l6_check.specs.Faults.{fault_of_finding}

-- the deck spells the program, with some labels
pub record IsProgramOf (deck : List ℕ) (program : List Parts) : Type 0 where
  pub assembly : Assembled
  pub same : assembly.program ≡ program
  pub spelled : SpellsJust deck assembly

-- the fault of the deck is the one that the finding says, and it spells nothing
pub record IsErrorOf (deck : List ℕ) (finding : Finding) : Type 0 where
  pub fault : AssemblyFault
  pub said : fault_of_finding finding ≡ Some fault
  pub unspelled : IsUnspelled deck fault

-- the finding says the fault that assembly met
pub record Tells (finding : Finding) (met : AsmFault) : Type 0 where
  pub said : fault_of_finding finding ≡ assembly_fault met
  pub there : is_some (assembly_fault met) ≡ true

-- where there is no error the deck spells a program; and an error is the fault that it has
abbrev pub IsVerdict : List ℕ → Option Finding → Type 0
IsVerdict deck None = (assembly : Assembled) × SpellsJust deck assembly
IsVerdict deck (Some finding) = IsErrorOf deck finding
