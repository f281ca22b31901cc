-- How labels that cards give are added.
use Rattle.std.proofs.Common.{◌≡◌, ℕ, List, [], ◌∷◌, ◌++◌, Option, Some, None, is_some, cond, sym, ap, ◌∙◌, subst}
use Rattle.std.specs.Str.{bytes_eq}
use Rattle.indexmap.specs.IndexMap.{insert_entry}
use Rattle.indexmap.proofs.MapLemmas.{absent_from_lookup, insert_entry-absent}
use Rattle.l6_group.specs.declared.label.Label.{Label}
use Rattle.l6_check.specs.declared.finding.Finding.{Finding}
use Rattle.l6_check.specs.declared.findings.Findings.{Findings}
use Rattle.l6_check.specs.Kept.{IsAdded, Say}
use Rattle.l6_check.specs.Labels.{first_card, with_label, twice_with, twice_on, twice_said}
use Rattle.l6_check.proofs.Keeping.{said_next}

-- a card whose label an earlier card gives is said
pub twice_more : (given : List (Label × ℕ)) (card : ℕ) (found : Option Label) (label : Label) (first : ℕ)
    (things : List (ℕ × ℕ)) (before after : Findings) (finding : Finding) →
    found ≡ Some label → first_card given label ≡ Some first → twice_said finding ≡ Some (card, first) →
    IsAdded before finding after → Say twice_said things before →
    Say twice_said (things ++ twice_on given card found) after
twice_more given card found label first things before after finding is is_first one added says =
    subst (λ (l : List (ℕ × ℕ)). Say twice_said (things ++ l) after)
    (sym (ap (twice_on given card) is ∙ ap (twice_with card) is_first))
    (said_next twice_said things (card, first) before after finding says one added)

-- a label that is new is added
pub label_new : (given : List (Label × ℕ)) (card : ℕ) (found : Option Label) (label : Label) →
    found ≡ Some label → first_card given label ≡ None →
    insert_entry bytes_eq given label card ≡ with_label given card found
label_new given card found label is new =
    insert_entry-absent bytes_eq label card given (absent_from_lookup (bytes_eq label) given new)
    ∙ sym (ap (λ (first : Option ℕ). cond (is_some first) given (given ++ (label, card) ∷ [])) new)
    ∙ sym (ap (with_label given card) is)
