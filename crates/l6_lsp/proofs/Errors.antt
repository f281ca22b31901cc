-- How many findings are errors, one after another.
use Rattle.std.proofs.Common.{◌≡◌, ℕ, ◌+◌, ◌<◌, ◌≤◌, List, [], ◌∷◌, ◌++◌, length, take, get_or, ap, sym, take_all, ◌∙◌, arith}
use Rattle.std.proofs.lemmas.List.{take_more}
use Rattle.l6_check.specs.Listed.{severity_of}
use Rattle.l6_check.specs.declared.finding.Finding.{Finding}
use Rattle.l6_lsp.specs.Fixes.{errors_in, errors_by}

-- one more is counted last
errors_last : (findings : List Finding) (finding : Finding) →
    errors_in (findings ++ finding ∷ []) ≡ errors_in findings + errors_by (severity_of finding.reason)
errors_last [] finding = omega arith
errors_last (first ∷ findings) finding = omega (arith, errors_last findings finding)

-- the next finding is counted last
pub errors_next : (findings : List Finding) (i count : ℕ) (default : Finding) → i < length findings →
    count ≡ errors_in (take i findings) →
    count + errors_by (severity_of (get_or findings i default).reason) ≡ errors_in (take (i + 1) findings)
errors_next findings i count default within is =
    let finding = get_or findings i default in
    ap (λ n. n + errors_by (severity_of finding.reason)) is
    ∙ sym (errors_last (take i findings) finding)
    ∙ ap errors_in (sym (take_more findings i default within))

-- at the end all are counted
pub errors_all : (findings : List Finding) (i count : ℕ) → length findings ≤ i →
    count ≡ errors_in (take i findings) → count ≡ errors_in findings
errors_all findings i count past is = is ∙ ap errors_in (take_all i findings past)
