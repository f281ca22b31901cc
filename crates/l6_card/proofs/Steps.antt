-- Steps of a pass, and what they went on with.
use Rattle.std.proofs.Common.{◌≡◌, ℕ, List, [], ◌∷◌, ◌++◌, map, Bool, true, false, Option, Some, None, Result, Ok, Err, refl, ap, ◌∙◌}
use Rattle.l6_card.specs.declared.cards.PlacedLabel.{PlacedLabel}
use Rattle.l6_card.specs.Statement.{DeckStatementParts}
use Rattle.l6_card.specs.declared.objection.Objection.{Objection}
use Rattle.l6_card.specs.DeckFault.{DeckFault}
use Rattle.l6_card.specs.Card.{Body}
use Rattle.l6_card.specs.Items.{Item, PlacedItem}
use Rattle.l6_card.specs.inner.StatementBuilder.{StatementBuilder, with_item, builder_then, builder_of}
use Rattle.l6_card.specs.Pieces.{Piece, item}
use Rattle.l6_card.specs.inner.Pass.{Stage, stage_if, when_built, when_labelled, after_pieces}
use Rattle.l6_card.specs.Fault.{and_then}

-- what is known within a statement
abbrev pub opened : List DeckStatementParts → Option PlacedLabel → StatementBuilder → Body → ℕ → Stage
opened statements label builder body continuations =
    record {
      statements = statements;
      is_open = true;
      label = label;
      builder = builder;
      body = body;
      continuations = continuations;
    }

-- a test that held, and a pass that went on
pub record Went (holds : Bool) (pass : Result Stage Objection) (final : Stage) : Type 0 where
  pub sound : holds ≡ true
  pub rest : pass ≡ Ok final

pub went_if : (holds : Bool) (objection : Objection) (known : Stage) (step : Stage →
    Result Stage Objection)
    (final : Stage) →
    and_then (stage_if holds objection known) step ≡ Ok final → Went holds (step known) final
went_if true objection known step final went = record { sound = refl; rest = went }
went_if false objection known step final went = absurd (cc)

-- a builder that was made, and a pass that went on with it
pub record WentDrafted (made : Result StatementBuilder DeckFault) (known : Stage) (step : Stage →
    Result Stage Objection)
    (final : Stage) : Type 0 where
  pub builder : StatementBuilder
  pub is_made : made ≡ Ok builder
  pub rest : step (record known { builder = builder }) ≡ Ok final

went_built : (i : Item) (made : Result StatementBuilder DeckFault) (known : Stage) (step : Stage →
    Result Stage Objection)
    (final : Stage) →
    and_then (when_built i made known) step ≡ Ok final → WentDrafted made known step final
went_built i (Ok builder) known step final went =
    record { builder = builder; is_made = refl; rest = went }
went_built i (Err fault) known step final went = absurd (cc)

-- a label that was found, and a pass that went on with it
pub record WentLabelled (found : Option PlacedLabel) (known : Stage) (step : Stage →
    Result Stage Objection)
    (final : Stage) : Type 0 where
  pub given : PlacedLabel
  pub is_found : found ≡ Some given
  pub rest : step (record known { label = Some given }) ≡ Ok final

pub went_labelled : (card : ℕ) (columns : List ℕ) (found : Option PlacedLabel) (known : Stage)
    (step : Stage → Result Stage Objection) (final : Stage) →
    and_then (when_labelled card columns found known) step ≡ Ok final → WentLabelled found known step final
went_labelled card columns None known step final went = absurd (cc)
went_labelled card columns (Some given) known step final went =
    record { given = given; is_found = refl; rest = went }

-- items on the card of this number
abbrev pub placed : ℕ → List Item → List PlacedItem
placed number items = map (λ i. record { card = number; what = i }) items

-- items that were taken make a builder
pub record Taken (items : List Item) (number : ℕ) (known final : Stage)
    (rest : List Piece) : Type 0 where
  pub builder : StatementBuilder
  pub made : builder_of known.builder (placed number items) ≡ Some builder
  pub rest_goes : after_pieces (record known { builder = builder }) rest ≡ Ok final

pub items_taken : (items : List Item) (number : ℕ) (known final : Stage) (rest : List Piece) →
    after_pieces known (map (item number) items ++ rest) ≡ Ok final →
    Taken items number known final rest
items_taken [] number known final rest taken =
    record { builder = known.builder; made = refl; rest_goes = taken }
items_taken (i ∷ items) number known final rest taken =
    let first = went_built i (with_item number known.builder i) known
    (λ next. after_pieces next (map (item number) items ++ rest)) final taken in
    let others =
    items_taken items number (record known { builder = first.builder }) final rest first.rest in
    record {
      builder = others.builder;
      made = ap (λ r. builder_then r (λ next. builder_of next (placed number items))) first.is_made
          ∙ others.made;
      rest_goes = others.rest_goes;
    }

made_on : (made : Result StatementBuilder DeckFault) (front : List PlacedItem)
    (following : List PlacedItem) →
    ((builder : StatementBuilder) (middle : StatementBuilder) → builder_of builder front ≡ Some middle →
    builder_of builder (front ++ following) ≡ builder_of middle following) →
    (middle : StatementBuilder) → builder_then made (λ next. builder_of next front) ≡ Some middle →
    builder_then made (λ next. builder_of next (front ++ following)) ≡ builder_of middle following
made_on (Ok builder) front following each middle makes = each builder middle makes
made_on (Err objection) front following each middle makes = absurd (cc)

-- items in a row make the builder that the last of them make of what the first made
pub builder_of_append : (front following : List PlacedItem) (builder middle : StatementBuilder) →
    builder_of builder front ≡ Some middle →
    builder_of builder (front ++ following) ≡ builder_of middle following
builder_of_append [] following builder middle makes =
    let same : builder ≡ middle = cc in
    ap (λ d. builder_of d following) same
builder_of_append (i ∷ front) following builder middle makes =
    made_on (with_item i.card builder i.what) front following
    (builder_of_append front following) middle makes

-- an item that is accepted, and what it makes
pub record Stands (made : Result StatementBuilder DeckFault) (step : StatementBuilder →
    Option StatementBuilder) (builder : StatementBuilder) : Type 0 where
  pub next : StatementBuilder
  pub is_made : made ≡ Ok next
  pub rest : step next ≡ Some builder

pub is_prefix : (made : Result StatementBuilder DeckFault)
    (step : StatementBuilder → Option StatementBuilder) (builder : StatementBuilder) →
    builder_then made step ≡ Some builder → Stands made step builder
is_prefix (Ok next) step builder makes = record { next = next; is_made = refl; rest = makes }
is_prefix (Err objection) step builder makes = absurd (cc)

-- items that make a builder are taken
pub record Gone (items : List Item) (more : List PlacedItem) (number : ℕ) (known : Stage)
    (builder : StatementBuilder)
    (rest : List Piece) : Type 0 where
  pub middle : StatementBuilder
  pub makes : builder_of middle more ≡ Some builder
  pub goes : after_pieces known (map (item number) items ++ rest) ≡ after_pieces
      (record known { builder = middle }) rest

pub items_go : (items : List Item) (more : List PlacedItem) (number : ℕ) (known : Stage)
    (builder : StatementBuilder)
    (rest : List Piece) →
    builder_of known.builder (placed number items ++ more) ≡ Some builder →
    Gone items more number known builder rest
items_go [] more number known builder rest makes =
    record { middle = known.builder; makes = makes; goes = refl }
items_go (i ∷ items) more number known builder rest makes =
    let first =
    is_prefix (with_item number known.builder i) (λ next. builder_of next (placed number items ++ more))
    builder makes in
    let others =
    items_go items more number (record known { builder = first.next }) builder rest first.rest in
    record {
      middle = others.middle;
      makes = others.makes;
      goes = ap
          (λ r. and_then (when_built i r known)
          (λ next. after_pieces next (map (item number) items ++ rest))) first.is_made
          ∙ others.goes;
    }
