-- The missing labels of a part of a deck, and those of the others.
use Rattle.std.proofs.Common.{◌≡◌, ℕ, ◌+◌, ◌≤◌, suc, true, List, [], ◌∷◌, ◌++◌, length, arith, refl, sym, ap, subst}
use Rattle.std.specs.List.{list_all}
use Rattle.std.proofs.lemmas.Bool.{and_from}
use Rattle.l6_group.specs.declared.label.Label.{Label}
use Rattle.l6_card.specs.Card.{Card, skipped, plain, labelled, continued, unknown, cards_from}
use Rattle.l6_card.specs.ReadsAs.{CardsDenote}
use Rattle.l6_card.specs.ReadAlone.{LinesReadAs}
use Rattle.l6_card.specs.Statement.{DeckStatementParts, is_fit}
use Rattle.l6_check.specs.Missing.{MissingFrom, MissingInPart}
use Rattle.l6_check.specs.Statements.{parts_of}

-- cards say no more statements than there are cards
few_statements : (cards : List Card) (statements : List DeckStatementParts) →
    CardsDenote cards statements → length statements ≤ length cards
few_statements [] [] denote = omega arith
few_statements [] (statement ∷ statements) denote = absurd denote
few_statements (skipped ∷ cards) statements denote =
    omega (arith, few_statements cards statements denote)
few_statements (plain body ∷ cards) [] denote = absurd denote
few_statements (plain body ∷ cards) (statement ∷ statements) denote =
    omega (arith, few_statements cards statements denote.1)
few_statements (labelled columns body ∷ cards) [] denote = absurd denote
few_statements (labelled columns body ∷ cards) (statement ∷ statements) denote =
    omega (arith, few_statements cards statements denote.1)
few_statements (continued body ∷ cards) statements denote =
    omega (arith, few_statements cards statements denote)
few_statements (unknown number ∷ cards) statements denote = absurd denote

-- each statement that cards say is fit for a program
fit_statements : (cards : List Card) (statements : List DeckStatementParts) →
    CardsDenote cards statements → list_all is_fit statements ≡ true
fit_statements [] [] denote = refl
fit_statements [] (statement ∷ statements) denote = absurd denote
fit_statements (skipped ∷ cards) statements denote = fit_statements cards statements denote
fit_statements (plain body ∷ cards) [] denote = absurd denote
fit_statements (plain body ∷ cards) (statement ∷ statements) denote =
    and_from (is_fit statement) (list_all is_fit statements) denote.0.fit
    (fit_statements cards statements denote.1)
fit_statements (labelled columns body ∷ cards) [] denote = absurd denote
fit_statements (labelled columns body ∷ cards) (statement ∷ statements) denote =
    and_from (is_fit statement) (list_all is_fit statements) denote.0.2.fit
    (fit_statements cards statements denote.1)
fit_statements (continued body ∷ cards) statements denote = fit_statements cards statements denote
fit_statements (unknown number ∷ cards) statements denote = absurd denote

length_cards : (number offset : ℕ) (lines : List (List ℕ)) →
    length (cards_from number offset lines) ≡ length lines
length_cards number offset [] = refl
length_cards number offset (line ∷ lines) =
    ap (λ n. suc n) (length_cards (number + 1) (offset + length line + 1) lines)

pub part_is_fit : (number : ℕ) (lines : List (List ℕ)) (statements : List DeckStatementParts) →
    LinesReadAs number lines statements → list_all is_fit statements ≡ true
part_is_fit number lines statements reads = fit_statements (cards_from number 0 lines) statements reads.cards

pub part_is_short : (number : ℕ) (lines : List (List ℕ)) (statements : List DeckStatementParts) →
    LinesReadAs number lines statements → length statements ≤ length lines
part_is_short number lines statements reads =
    omega (arith, length_cards number 0 lines, few_statements (cards_from number 0 lines) statements reads.cards)

-- the missing labels of the next part come before those of the others
pub missing_next : (all left : List (List ℕ)) (given : List (Label × ℕ)) (part : List (List ℕ))
    (number count next : ℕ) (here more : List (ℕ × Label)) →
    parts_of all ≡ part ∷ parts_of left → length part ≡ count → next ≡ number + count →
    MissingInPart given number part here → MissingFrom given next (parts_of left) more →
    MissingFrom given number (parts_of all) (here ++ more)
missing_next all left given part number count next here more split counted numbered are following =
    let leads : next ≡ number + length part = omega (arith, counted, numbered) in
    subst (λ (ps : List (List (List ℕ))). MissingFrom given number ps (here ++ more)) (sym split)
    (here, more, are, subst (λ (n : ℕ). MissingFrom given n (parts_of left) more) leads following, refl)
