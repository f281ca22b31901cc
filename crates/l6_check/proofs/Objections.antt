-- The objections to a part, one after another.
use Rattle.std.proofs.Common.{◌≡◌, ℕ, zero, suc, List, [], ◌∷◌, append-nil, option_to_list, Option, Some, None, refl, ap, ◌∙◌}
use Rattle.std.specs.List.{flat_map}
use Rattle.l6_card.specs.ReadAlone.{objection_to_lines}
use Rattle.l6_card.specs.declared.objection.Objection.{Objection}
use Rattle.l6_check.specs.Statements.{mended, objections_in, stand_in}

-- those after the first one, where these columns stand in for what objects
abbrev others_by : ℕ → ℕ → List (List ℕ) → Objection → List ℕ → List Objection
others_by most number part objection columns = objections_in most number (mended objection columns number part)

-- the first one, and those after it
abbrev told : ℕ → ℕ → List (List ℕ) → Objection → List Objection
told most number part objection =
    objection ∷ flat_map (others_by most number part objection) (option_to_list (stand_in objection))

-- a part to which there is no objection
pub objections_none : (most number : ℕ) (part : List (List ℕ)) → objection_to_lines number part ≡ None →
    objections_in most number part ≡ []
objections_none zero number part none = refl
objections_none (suc most) number part none =
    ap (λ (met : Option Objection). flat_map (told most number part) (option_to_list met)) none

met_first : (most more number : ℕ) (part : List (List ℕ)) (objection : Objection) →
    most ≡ suc more → objection_to_lines number part ≡ Some objection →
    objections_in most number part ≡ told more number part objection
met_first most more number part objection counted met =
    ap (λ n. objections_in n number part) counted
    ∙ ap (λ (o : Option Objection). flat_map (told more number part) (option_to_list o)) met
    ∙ append-nil (told more number part objection)

-- a part to which there is one, and nothing stands in for what objects
pub objections_one : (most more number : ℕ) (part : List (List ℕ)) (objection : Objection) →
    most ≡ suc more → objection_to_lines number part ≡ Some objection → stand_in objection ≡ None →
    objections_in most number part ≡ objection ∷ []
objections_one most more number part objection counted met alone =
    met_first most more number part objection counted met
    ∙ ap (λ (s : Option (List ℕ)). objection ∷ flat_map (others_by more number part objection) (option_to_list s))
    alone

-- a part to which there is one, and these columns stand in for what objects
pub objections_more : (most more number : ℕ) (part : List (List ℕ)) (objection : Objection)
    (columns : List ℕ) →
    most ≡ suc more → objection_to_lines number part ≡ Some objection → stand_in objection ≡ Some columns →
    objections_in most number part
    ≡ objection ∷ objections_in more number (mended objection columns number part)
objections_more most more number part objection columns counted met stands =
    met_first most more number part objection counted met
    ∙ ap (λ (s : Option (List ℕ)). objection ∷ flat_map (others_by more number part objection) (option_to_list s))
    stands
    ∙ ap (λ os. objection ∷ os) (append-nil (others_by more number part objection columns))
