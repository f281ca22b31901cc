-- What is said of findings, one after another.
use Rattle.std.proofs.Common.{◌≡◌, ℕ, ◌+◌, ◌<◌, ◌≤◌, List, [], ◌∷◌, ◌++◌, length, map, take, get_or, ap, sym, subst, take_all, ◌∙◌}
use Rattle.std.proofs.lemmas.List.{take_more, map_push}
use Rattle.serde_json.specs.Data.{Data}
use Rattle.serde_json.specs.View.{view}
use Rattle.serde_json.specs.declared.value.Value.{Value}
use Rattle.l6_check.specs.declared.finding.Finding.{Finding}
use Rattle.l6_lsp.specs.Diagnostics.{IsDiagnostic, AreDiagnostics, diagnostic_value}

-- one more is said last
said_last : (deck : List ℕ) (findings : List Finding) (values : List Data) (finding : Finding)
    (value : Data) → AreDiagnostics deck findings values → IsDiagnostic deck finding value →
    AreDiagnostics deck (findings ++ finding ∷ []) (values ++ value ∷ [])
said_last deck [] [] finding value are is = (is, tt)
said_last deck [] (other ∷ values) finding value are is = absurd are
said_last deck (other ∷ findings) [] finding value are is = absurd are
said_last deck (other ∷ findings) (first ∷ values) finding value are is =
    (are.0, said_last deck findings values finding value are.1 is)

-- the next finding is said last, of whatever list the deck is
pub said_next : (deck other : List ℕ) (findings : List Finding) (values longer : List Value) (i : ℕ)
    (default : Finding) (value : Value) → i < length findings → other ≡ deck →
    longer ≡ values ++ value ∷ [] → AreDiagnostics deck (take i findings) (map view values) →
    IsDiagnostic other (get_or findings i default) (view value) →
    AreDiagnostics deck (take (i + 1) findings) (map view longer)
said_next deck other findings values longer i default value within same pushed are is =
    let finding = get_or findings i default in
    let here : IsDiagnostic deck finding (view value)
    = subst (λ (d : List ℕ). IsDiagnostic d finding (view value)) same is in
    let back : map view longer ≡ map view values ++ view value ∷ []
    = ap (map view) pushed ∙ map_push view values value in
    let more : AreDiagnostics deck (take i findings ++ finding ∷ []) (map view values ++ view value ∷ [])
    = said_last deck (take i findings) (map view values) finding (view value) are here in
    subst (λ (l : List Data). AreDiagnostics deck (take (i + 1) findings) l) (sym back)
    (subst (λ (l : List Finding). AreDiagnostics deck l (map view values ++ view value ∷ []))
    (sym (take_more findings i default within)) more)

-- at the end all are said
pub all_said : (deck : List ℕ) (findings : List Finding) (values : List Value) (i : ℕ) →
    length findings ≤ i → AreDiagnostics deck (take i findings) (map view values) →
    AreDiagnostics deck findings (map view values)
all_said deck findings values i past are =
    subst (λ (l : List Finding). AreDiagnostics deck l (map view values)) (take_all i findings past) are

-- what is said of a finding, by its parts
pub said_by_parts : (range range_is : Data) (severity severity_is : ℕ) (code code_is : List ℕ)
    (message related value : Data) → value ≡ diagnostic_value range severity code message related →
    range ≡ range_is → severity ≡ severity_is → code ≡ code_is →
    value ≡ diagnostic_value range_is severity_is code_is message related
said_by_parts range range_is severity severity_is code code_is message related value is by_range by_severity by_code =
    is
    ∙ ap (λ (d : Data). diagnostic_value d severity code message related) by_range
    ∙ ap (λ (n : ℕ). diagnostic_value range_is n code message related) by_severity
    ∙ ap (λ (c : List ℕ). diagnostic_value range_is severity_is c message related) by_code
