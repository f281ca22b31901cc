-- How the card that objects is looked for.
use Rattle.std.proofs.Common.{◌≡◌, ℕ, ◌+◌, Bool, true, false, cond, suc, List, ◌∷◌, length, min, take, take_all, Option, eqb, ltb, arith, refl, sym, ap, ◌∙◌}
use Rattle.std.proofs.lemmas.Bool.{eqb-true, eqb-false, ltb-true, ltb-false}
use Rattle.l6_word.specs.Lines.{lines_of}
use Rattle.l6_group.specs.declared.label.Label.{Label}
use Rattle.l6_card.specs.Card.{columns_of}
use Rattle.l6_card.specs.declared.objection.Objection.{Objection}
use Rattle.l6_check.specs.Indented.{label_in_front, label_on_card}

other_card : {X : Type 0} (card other : ℕ) (same : Bool) (one left : X) → (card ≡ other → ⊥) →
    eqb card other ≡ same → cond same one left ≡ left
other_card card other true one left differ is = absurd (differ (eqb-true card other is))
other_card card other false one left differ is = refl

-- where the first of the lines that are left is not the card that objects, it is among the others
pub label_later : (objection : Objection) (card left more : ℕ) (line rest : List ℕ)
    (others : List (List ℕ)) (found : Option Label) →
    (card + 1 ≡ objection.card → ⊥) → left ≡ suc more → lines_of rest ≡ line ∷ others →
    label_on_card objection (card + 1) (take left (lines_of rest)) ≡ found →
    label_on_card objection (card + 1 + 1) (take more others) ≡ found
label_later objection card left more line rest others found differ counted split same =
    let taken : take (suc more) (line ∷ others) ≡ line ∷ take more others = refl in
    let later = label_on_card objection (card + 1 + 1) (take more others) in
    sym (ap (label_on_card objection (card + 1))
    (ap (λ n. take n (lines_of rest)) counted ∙ ap (take (suc more)) split ∙ taken)
    ∙ other_card (card + 1) objection.card (eqb (card + 1) objection.card)
    (label_in_front (columns_of line) objection.from) later differ refl)
    ∙ same

this_card : {X : Type 0} (card other : ℕ) (same : Bool) (one left : X) → card ≡ other →
    eqb card other ≡ same → cond same one left ≡ one
this_card card other true one left equal is = refl
this_card card other false one left equal is = absurd (eqb-false card other is equal)

-- where the first of the lines that are left is the card that objects, its label is the one
pub label_here : (objection : Objection) (card left more : ℕ) (line rest : List ℕ)
    (others : List (List ℕ)) (found : Option Label) →
    card + 1 ≡ objection.card → left ≡ suc more → lines_of rest ≡ line ∷ others →
    label_on_card objection (card + 1) (take left (lines_of rest)) ≡ found →
    label_in_front (columns_of line) objection.from ≡ found
label_here objection card left more line rest others found equal counted split same =
    let taken : take (suc more) (line ∷ others) ≡ line ∷ take more others = refl in
    let later = label_on_card objection (card + 1 + 1) (take more others) in
    sym (ap (label_on_card objection (card + 1))
    (ap (λ n. take n (lines_of rest)) counted ∙ ap (take (suc more)) split ∙ taken)
    ∙ this_card (card + 1) objection.card (eqb (card + 1) objection.card)
    (label_in_front (columns_of line) objection.from) later equal refl)
    ∙ same

least_by : (count least : ℕ) (columns : List ℕ) (within : Bool) → least ≡ min count (length columns) →
    ltb count (length columns) ≡ within → take least columns ≡ take count columns
least_by count least columns true is tested =
    ap (λ n. take n columns) (omega (arith, is, ltb-true count (length columns) tested))
least_by count least columns false is tested =
    let past = ltb-false count (length columns) tested in
    take_all least columns (omega (arith, is, past)) ∙ sym (take_all count columns (omega (arith, past)))

-- the columns up to a count, or all where there are fewer, are those that the count takes
pub least_taken : (count least : ℕ) (columns : List ℕ) → least ≡ min count (length columns) →
    take least columns ≡ take count columns
least_taken count least columns is = least_by count least columns (ltb count (length columns)) is refl
