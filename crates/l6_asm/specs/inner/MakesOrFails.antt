-- Answers of the assembler, and what they are of a deck.
use Rattle.std.specs.Prelude.{◌≡◌, IfSome, Result, Ok, Err, MatchResult}
use Rattle.l6_asm.specs.declared.fault.AsmFault.{AsmFault}
use Rattle.l6_asm.specs.AssemblyFault.{AssemblyFault, assembly_fault}

-- the answer is what was to be made, seen so, or its fault; out of memory may come in place of
-- either
abbrev pub MakesOrFails : {X A : Type 0} → Result X AsmFault → (X → A) → Result A AssemblyFault → Type 0
MakesOrFails result seen made =
    MatchResult result
    (λ x. made ≡ Ok (seen x))
    (λ fault. IfSome (assembly_fault fault) (λ f. made ≡ Err f))
