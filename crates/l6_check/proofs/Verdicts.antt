-- What a fault of the assembler makes the verdict.
use Rattle.std.proofs.Common.{◌≡◌, ℕ, ◌<◌, true, is_some, List, Option, Some, None, IfSome, MatchOption, arith}
use Rattle.l6_asm.specs.AssemblyFault.{AssemblyFault, assembly_fault}
use Rattle.l6_asm.specs.declared.fault.AsmFault.{AsmFault}
use Rattle.l6_asm.specs.Spells.{IsUnspelled}
use Rattle.l6_check.specs.declared.finding.Finding.{Finding}
use Rattle.l6_check.specs.Faults.{fault_of_finding}
use Rattle.l6_check.specs.declared.report.Report.{Report}
use Rattle.l6_check.specs.Counted.{CountsErrors}
use Rattle.l6_check.specs.Report.{ErrorsOf}
use Rattle.l6_check.specs.Verdict.{IsVerdict, Tells, IsErrorOf}

error_met : (deck : List ℕ) (finding : Finding) (found : Option AssemblyFault) →
    fault_of_finding finding ≡ found → is_some found ≡ true → IfSome found (IsUnspelled deck) →
    IsErrorOf deck finding
error_met deck finding None said there unspelled = absurd (cc)
error_met deck finding (Some fault) said there unspelled =
    record { fault = fault; said = said; unspelled = unspelled }

-- a finding that tells the fault that assembly met is an error of the deck
pub error_told : (deck : List ℕ) (fault : AsmFault) (finding : Finding) → Tells finding fault →
    IfSome (assembly_fault fault) (IsUnspelled deck) → IsErrorOf deck finding
error_told deck fault finding tells unspelled =
    error_met deck finding (assembly_fault fault) tells.said tells.there unspelled

counted : (deck : List ℕ) (first : Option Finding) (errors : ℕ) → IsVerdict deck first →
    MatchOption first (errors ≡ 0) (λ _. 0 < errors) → CountsErrors deck errors
counted deck None errors verdict count = record {
  none = λ zero. verdict;
  some = λ some. absurd (omega (arith, count, some));
}
counted deck (Some finding) errors verdict count = record {
  none = λ zero. absurd (omega (arith, count, zero));
  some = λ some. verdict.unspelled.nothing;
}

verdict_of : (deck text : List ℕ) (report : Report) (first : Option Finding) →
    ErrorsOf deck text report first → IsVerdict deck first
verdict_of deck text report None clean = (clean.spelled.assembly, clean.spelled.spelled)
verdict_of deck text report (Some first) faulty = faulty.error

-- a count that is none exactly if a report has no first error says what the report's verdict says
pub verdict_counted : (deck text : List ℕ) (report : Report) (errors : ℕ) →
    ErrorsOf deck text report report.first → MatchOption report.first (errors ≡ 0) (λ _. 0 < errors) →
    CountsErrors deck errors
verdict_counted deck text report errors found count =
    counted deck report.first errors (verdict_of deck text report report.first found) count
