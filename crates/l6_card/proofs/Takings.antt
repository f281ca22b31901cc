-- Cards that say statements are taken, and they say them in one way.
use Rattle.std.proofs.Common.{◌≡◌, ℕ, ◌+◌, ◌≤◌, List, [], ◌∷◌, ◌++◌, length, true, Bool, false, ltb, Option, Some, None, Result, Ok, refl, sym, ap, ◌∙◌, arith, length-append}
use Rattle.std.proofs.lemmas.Bool.{lt-ltb}
use Rattle.l6_card.specs.declared.cards.PlacedLabel.{PlacedLabel}
use Rattle.l6_card.specs.Numerals.{most_deck_statements, most_continuations}
use Rattle.l6_card.specs.Items.{items_of, PlacedItem}
use Rattle.l6_card.specs.Card.{Body, Card, skipped, plain, labelled, continued, unknown}
use Rattle.l6_card.specs.Statement.{DeckStatementParts, label_on}
use Rattle.l6_card.specs.declared.objection.Objection.{Objection}
use Rattle.l6_card.specs.declared.objection.Reason.TheVariants.{Unfinished, TooManyStatements, TooManyContinuations}
use Rattle.l6_card.specs.Objection.{card_objects}
use Rattle.l6_card.specs.inner.StatementBuilder.{StatementBuilder, new_builder, is_whole, statement_from, builder_of}
use Rattle.l6_card.specs.Pieces.{begins, label, items_on, pieces_of_cards}
use Rattle.l6_card.specs.inner.Pass.{Stage, first_stage, stage_if, when_labelled, after_pieces}
use Rattle.l6_card.specs.ReadsAs.{continued_items, continuations, Denotes, CardsDenote}
use Rattle.l6_card.specs.Fault.{and_then, column_objects}
use Rattle.l6_card.proofs.Building.{builders_of}
use Rattle.l6_card.proofs.Steps.{opened, items_go}

-- a pass that ends well
abbrev pub EndsWell : Result Stage Objection → Type 0
EndsWell pass = (final : Stage) × (pass ≡ Ok final)

-- a step whose test holds goes on
go_if : (holds : Bool) (objection : Objection) (known : Stage) (step : Stage →
    Result Stage Objection) →
    holds ≡ true → and_then (stage_if holds objection known) step ≡ step known
go_if holds objection known step sound = ap (λ b. and_then (stage_if b objection known) step) sound

-- a label that is found goes on
go_labelled : (card : ℕ) (columns : List ℕ) (found : Option PlacedLabel) (given : PlacedLabel) (known : Stage)
    (step : Stage → Result Stage Objection) →
    found ≡ Some given →
    and_then (when_labelled card columns found known) step ≡ step (record known { label = Some given })
go_labelled card columns found given known step is_found =
    ap (λ f. and_then (when_labelled card columns f known) step) is_found

-- what goes on to a pass that ends well ends well
well : (pass rest : Result Stage Objection) → pass ≡ rest → EndsWell rest → EndsWell pass
well pass rest goes ends' = (ends'.0, goes ∙ ends'.1)

pub open_goes : (cards : List Card) (statements : List DeckStatementParts)
    (given : Option PlacedLabel)
    (builder : StatementBuilder) (last : Body) (further : ℕ) (made : StatementBuilder)
    (next : List DeckStatementParts) →
    builder_of builder (continued_items cards) ≡ Some made → is_whole made ≡ true →
    further + continuations cards ≤ most_continuations → CardsDenote cards next →
    length statements + 1 + length next ≤ most_deck_statements →
    EndsWell (after_pieces (opened statements given builder last further) (pieces_of_cards cards))
open_goes [] statements given builder last further made
    (statement ∷ next) makes whole few denote fits = absurd denote
open_goes [] statements given builder last further made [] makes whole few denote fits =
    let over = statements ++ statement_from given builder ∷ [] in
    let closed : Stage =
    record {
      statements = over;
      is_open = false;
      label = None;
      builder = new_builder;
      body = last;
      continuations = further;
    } in
    let same : builder ≡ made = cc in (
      closed,
      go_if (is_whole builder) (card_objects last Unfinished) closed (λ known. Ok known) (ap is_whole same
          ∙ whole),
    )
open_goes (skipped ∷ cards) statements given builder last further made next makes whole few denote
    fits =
    open_goes cards statements given builder last further made next makes whole few denote fits
open_goes (continued body ∷ cards) statements given builder last further made next makes whole few
    denote fits =
    let rest = pieces_of_cards cards in
    let known = opened statements given builder body (further + 1) in
    let items =
    items_go (items_of body.offset body.columns) (continued_items cards) body.card known made rest
    makes in
    let room = lt-ltb further most_continuations (omega arith) in
    well _ _ (go_if (ltb further most_continuations)
    (column_objects body.card TooManyContinuations) known
    (λ k. after_pieces k (items_on body ++ rest)) room ∙ items.goes)
    (open_goes cards statements given items.middle body
    (further + 1) made next items.makes whole (omega arith) denote fits)
open_goes (plain body ∷ cards) statements given builder last further made [] makes whole few denote
    fits = absurd denote
open_goes (plain body ∷ cards) statements given builder last further made
    (statement ∷ next) makes whole few denote fits =
    let over = statements ++ statement_from given builder ∷ [] in
    let closed : Stage =
    record {
      statements = over;
      is_open = false;
      label = None;
      builder = new_builder;
      body = last;
      continuations = further;
    } in
    let same : builder ≡ made = cc in
    let count = length-append statements (statement_from given builder ∷ []) in
    let rest = pieces_of_cards cards in
    let known = opened over None new_builder body 0 in
    let denotes = builders_of None _ _ statement denote.0 in
    let items =
    items_go (items_of body.offset body.columns) (continued_items cards) body.card known
    denotes.builder rest denotes.items_make in
    let room = lt-ltb (length over) most_deck_statements (omega (arith, count)) in
    well _ _ (go_if (is_whole builder) (card_objects last Unfinished) closed
    (λ k. after_pieces k (begins body ∷ items_on body ++ rest)) (ap is_whole same ∙ whole)
    ∙ go_if (ltb (length over) most_deck_statements)
    (card_objects body TooManyStatements) known
    (λ k. after_pieces k (items_on body ++ rest)) room
    ∙ items.goes)
    (open_goes cards over None items.middle body 0 denotes.builder next items.makes denotes.whole
    (omega (arith, denotes.few)) denote.1 (omega (arith, count)))
open_goes (labelled columns body ∷ cards) statements given builder last further made [] makes whole
    few denote fits = absurd denote
open_goes (labelled columns body ∷ cards) statements given builder last further made
    (statement ∷ next) makes whole few denote fits =
    let over = statements ++ statement_from given builder ∷ [] in
    let closed : Stage =
    record {
      statements = over;
      is_open = false;
      label = None;
      builder = new_builder;
      body = last;
      continuations = further;
    } in
    let same : builder ≡ made = cc in
    let count = length-append statements (statement_from given builder ∷ []) in
    let rest = pieces_of_cards cards in
    let own = denote.0.0 in
    let denotes = builders_of (Some own) _ _ statement denote.0.2 in
    let begun = opened over None new_builder body 0 in
    let known = opened over (Some own) new_builder body 0 in
    let items =
    items_go (items_of body.offset body.columns) (continued_items cards) body.card known
    denotes.builder rest denotes.items_make in
    let room = lt-ltb (length over) most_deck_statements (omega (arith, count)) in
    well _ _ (go_if (is_whole builder) (card_objects last Unfinished) closed
    (λ k. after_pieces k (begins body ∷ label body.card columns ∷ items_on body ++ rest))
    (ap is_whole same ∙ whole)
    ∙ go_if (ltb (length over) most_deck_statements)
    (card_objects body TooManyStatements) begun
    (λ k. after_pieces k (label body.card columns ∷ items_on body ++ rest)) room
    ∙ go_labelled body.card columns (label_on body.card columns) own begun
    (λ k. after_pieces k (items_on body ++ rest)) denote.0.1
    ∙ items.goes)
    (open_goes cards over
    (Some own) items.middle body 0 denotes.builder next items.makes denotes.whole
    (omega (arith, denotes.few)) denote.1 (omega (arith, count)))
open_goes (unknown number ∷ cards) statements given builder last further made next makes whole few
    denote fits = absurd denote

pub cards_go : (cards : List Card) (statements : List DeckStatementParts) →
    continuations cards ≡ 0 → CardsDenote cards statements → length statements ≤ most_deck_statements →
    EndsWell (after_pieces first_stage (pieces_of_cards cards))
cards_go [] [] none denote fits = (first_stage, refl)
cards_go [] (statement ∷ statements) none denote fits = absurd denote
cards_go (skipped ∷ cards) statements none denote fits =
    cards_go cards statements none denote fits
cards_go (continued body ∷ cards) statements none denote fits = absurd (omega arith)
cards_go (plain body ∷ cards) [] none denote fits = absurd denote
cards_go (plain body ∷ cards) (statement ∷ statements) none denote fits =
    let rest = pieces_of_cards cards in
    let known = opened [] None new_builder body 0 in
    let denotes = builders_of None _ _ statement denote.0 in
    let items =
    items_go (items_of body.offset body.columns) (continued_items cards) body.card known
    denotes.builder rest denotes.items_make in
    well _ _ items.goes
    (open_goes cards [] None items.middle body 0 denotes.builder statements items.makes
    denotes.whole
    (omega (arith, denotes.few)) denote.1 (omega arith))
cards_go (labelled columns body ∷ cards) [] none denote fits = absurd denote
cards_go (labelled columns body ∷ cards) (statement ∷ statements) none denote fits =
    let rest = pieces_of_cards cards in
    let own = denote.0.0 in
    let denotes = builders_of (Some own) _ _ statement denote.0.2 in
    let begun = opened [] None new_builder body 0 in
    let known = opened [] (Some own) new_builder body 0 in
    let items =
    items_go (items_of body.offset body.columns) (continued_items cards) body.card known
    denotes.builder rest denotes.items_make in
    well _ _ (go_labelled body.card columns (label_on body.card columns) own begun
    (λ k. after_pieces k (items_on body ++ rest)) denote.0.1 ∙ items.goes)
    (open_goes cards []
    (Some own) items.middle body 0 denotes.builder statements items.makes denotes.whole
    (omega (arith, denotes.few)) denote.1 (omega arith))
cards_go (unknown number ∷ cards) statements none denote fits = absurd denote

-- a statement is the only one with its label and items
same_statement : (given : Option PlacedLabel) (items : List PlacedItem) (further : ℕ)
    (one other : DeckStatementParts) →
    Denotes given items further one → Denotes given items further other → one ≡ other
same_statement given items further one other denotes denotes' =
    let first = builders_of given items further one denotes in
    let second = builders_of given items further other denotes' in
    let same : first.builder ≡ second.builder = cc (first.items_make, second.items_make) in
    first.statement_is ∙ ap (statement_from given) same ∙ sym second.statement_is

-- cards say one list of statements
pub same_statements : (cards : List Card) (one other : List DeckStatementParts) →
    CardsDenote cards one → CardsDenote cards other → one ≡ other
same_statements [] [] [] denote denote' = refl
same_statements [] [] (y ∷ ys) denote denote' = absurd denote'
same_statements [] (x ∷ xs) other denote denote' = absurd denote
same_statements (skipped ∷ cards) one other denote denote' =
    same_statements cards one other denote denote'
same_statements (continued body ∷ cards) one other denote denote' =
    same_statements cards one other denote denote'
same_statements (plain body ∷ cards) [] other denote denote' = absurd denote
same_statements (plain body ∷ cards) (x ∷ xs) [] denote denote' = absurd denote'
same_statements (plain body ∷ cards) (x ∷ xs) (y ∷ ys) denote denote' =
    let head : x ≡ y = same_statement None _ _ x y denote.0 denote'.0 in
    let tail = same_statements cards xs ys denote.1 denote'.1 in
    cc
same_statements (labelled columns body ∷ cards) [] other denote denote' = absurd denote
same_statements (labelled columns body ∷ cards) (x ∷ xs) [] denote denote' = absurd denote'
same_statements (labelled columns body ∷ cards) (x ∷ xs) (y ∷ ys) denote denote' =
    let own : denote.0.0 ≡ denote'.0.0 = cc (denote.0.1, denote'.0.1) in
    let first = builders_of (Some denote.0.0) _ _ x denote.0.2 in
    let second = builders_of (Some denote'.0.0) _ _ y denote'.0.2 in
    let builders : first.builder ≡ second.builder = cc (first.items_make, second.items_make) in
    let head : x ≡ y = first.statement_is
    ∙ ap (statement_from (Some denote.0.0)) builders
    ∙ ap (λ (l : PlacedLabel). statement_from (Some l) second.builder) own
    ∙ sym second.statement_is in
    let tail = same_statements cards xs ys denote.1 denote'.1 in
    cc
same_statements (unknown number ∷ cards) one other denote denote' = absurd denote
