-- Labels, looked up and added.
use Rattle.std.proofs.Common.{◌≡◌, ℕ, ◌+◌, ◌<◌, ◌≤◌, List, [], ◌∷◌, ◌++◌, length, Bool, true, false, cond, ltb, Option, Some, None, is_some, Result, Ok, Err, refl, sym, ap, ◌∙◌, arith}
use Rattle.std.specs.List.{list_all}
use Rattle.std.specs.Map.{lookup}
use Rattle.std.specs.Str.{bytes_eq}
use Rattle.std.proofs.lemmas.Bool.{and_from, and_parts, lt-ltb}
use Rattle.std.proofs.lemmas.List.Folds.{list_all-append}
use Rattle.indexmap.specs.IndexMap.{insert_entry}
use Rattle.l6_group.specs.declared.label.Label.{Label}
use Rattle.l6_card.specs.declared.cards.PlacedLabel.{PlacedLabel}
use Rattle.l6_card.specs.Statement.{DeckStatementParts}
use Rattle.l6_asm.specs.AssemblyFault.{AssemblyFault, twice_labelled}
use Rattle.l6_asm.specs.Labels.{number_of, with_label, and_then, labels_after}

last_step : (same : Bool) (entry : Label × ℕ) (labels : List (Label × ℕ)) (label : Label)
    (number : ℕ) →
    (lookup (bytes_eq label) labels ≡ None →
    insert_entry bytes_eq labels label number ≡ labels ++ (label, number) ∷ []) →
    cond same (Some entry.1) (lookup (bytes_eq label) labels) ≡ None →
    cond same ((entry.0, number) ∷ labels) (entry ∷ insert_entry bytes_eq labels label number)
    ≡ entry ∷ (labels ++ (label, number) ∷ [])
last_step true entry labels label number later none = absurd (cc)
last_step false entry labels label number later none = ap (λ es. entry ∷ es) (later none)

-- a label that is not there goes last
goes_last : (labels : List (Label × ℕ)) (label : Label) (number : ℕ) →
    number_of labels label ≡ None →
    insert_entry bytes_eq labels label number ≡ labels ++ (label, number) ∷ []
goes_last [] label number none = refl
goes_last (entry ∷ labels) label number none =
    last_step (bytes_eq label entry.0) entry labels label number (goes_last labels label number)
    none

-- a label that is not there is added
pub added : (labels new : List (Label × ℕ)) (number : ℕ) (given : PlacedLabel) →
    number_of labels given.label ≡ None → new ≡ insert_entry bytes_eq labels given.label number →
    with_label labels number (Some given) ≡ Ok new
added labels new number given none same =
    ap (λ (found : Option ℕ). cond (is_some found) (Err (twice_labelled given.card))
    (Ok (labels ++ (given.label, number) ∷ []))) none
    ∙ ap Ok (sym (same ∙ goes_last labels given.label number none))

-- a label that is there is refused
pub refused : (labels : List (Label × ℕ)) (number there : ℕ) (given : PlacedLabel) →
    number_of labels given.label ≡ Some there →
    with_label labels number (Some given) ≡ Err (twice_labelled given.card)
refused labels number there given found =
    ap (λ (f : Option ℕ). cond (is_some f) (Err (twice_labelled given.card))
    (Ok (labels ++ (given.label, number) ∷ []))) found

-- the label's statement is below the end
abbrev pub is_entry_below : ℕ → Label × ℕ → Bool
is_entry_below end entry = ltb entry.1 end

with_label_below : (end : ℕ) (labels more : List (Label × ℕ)) (number : ℕ)
    (given : Option PlacedLabel) →
    list_all (is_entry_below end) labels ≡ true → number < end →
    with_label labels number given ≡ Ok more → list_all (is_entry_below end) more ≡ true
with_label_below end labels more number None all below made =
    let same : labels ≡ more = cc in
    ap (list_all (is_entry_below end)) (sym same) ∙ all
with_label_below end labels more number (Some given) all below made =
    with_given (is_some (number_of labels given.label)) made
  where
    with_given : (there : Bool) →
        ◌≡◌ {A = Result (List (Label × ℕ)) AssemblyFault}
        (cond there (Err (twice_labelled given.card)) (Ok (labels ++ (given.label, number) ∷ [])))
        (Ok more) →
        list_all (is_entry_below end) more ≡ true
    with_given true so = absurd (cc)
    with_given false so =
        let same : labels ++ (given.label, number) ∷ [] ≡ more = cc in
        ap (list_all (is_entry_below end)) (sym same)
        ∙ list_all-append (is_entry_below end) labels ((given.label, number) ∷ [])
        ∙ and_from (list_all (is_entry_below end) labels)
        (list_all (is_entry_below end) ((given.label, number) ∷ [])) all
        (and_from (ltb number end) true (lt-ltb number end below) refl)

pub went_on : {A B : Type 0} (one : Result A AssemblyFault) (step : A →
    Result B AssemblyFault) (made : B) →
    and_then one step ≡ Ok made → (middle : A) × (one ≡ Ok middle) × (step middle ≡ Ok made)
went_on (Ok middle) step made so = (middle, refl, so)
went_on (Err fault) step made so = absurd (cc)

-- each label's statement is one of those that there are
pub labels_after_below : (end : ℕ) (written : List DeckStatementParts) (labels more : List (Label × ℕ))
    (number : ℕ) →
    list_all (is_entry_below end) labels ≡ true → number + length written ≤ end →
    labels_after labels number written ≡ Ok more → list_all (is_entry_below end) more ≡ true
labels_after_below end [] labels more number all fits made =
    let same : labels ≡ more = cc in
    ap (list_all (is_entry_below end)) (sym same) ∙ all
labels_after_below end (one ∷ written) labels more number all fits made =
    let first =
    went_on (with_label labels number one.label) (λ next. labels_after next (number + 1) written)
    more made in
    labels_after_below end written first.0 more (number + 1)
    (with_label_below end labels first.0 number one.label all (omega arith) first.1)
    (omega arith) first.2

found_step : (end : ℕ) (same : Bool) (entry : Label × ℕ) (others : Option ℕ) (number : ℕ) →
    is_entry_below end entry ≡ true → (others ≡ Some number → ltb number end ≡ true) →
    cond same (Some entry.1) others ≡ Some number → ltb number end ≡ true
found_step end true entry others number below later found =
    let same : entry.1 ≡ number = cc in
    ap (λ n. ltb n end) (sym same) ∙ below
found_step end false entry others number below later found = later found

-- a label that is found names one of them
pub found_below : (end : ℕ) (labels : List (Label × ℕ)) (label : Label) (number : ℕ) →
    list_all (is_entry_below end) labels ≡ true → number_of labels label ≡ Some number →
    ltb number end ≡ true
found_below end [] label number all found = absurd (cc)
found_below end (entry ∷ labels) label number all found =
    let parts = and_parts (is_entry_below end entry) (list_all (is_entry_below end) labels) all in
    found_step end (bytes_eq label entry.0) entry (number_of labels label) number parts.0
    (found_below end labels label number parts.1) found
