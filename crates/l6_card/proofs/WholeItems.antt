-- Whole items within the limits say one statement that is fit, and items that say one are whole.
use Rattle.std.proofs.Common.{◌≡◌, ℕ, ◌+◌, ◌≤◌, List, [], ◌∷◌, ◌++◌, length, Bool, true, false, cond, leb, Option, Some, None, Result, Ok, Err, refl, sym, ap, ◌∙◌, arith, append_assoc, append-nil}
use Rattle.std.specs.Prelude.{◌&&◌, not}
use Rattle.std.proofs.lemmas.Bool.{and_from, le-leb}
use Rattle.l6_prog.specs.Numerals.{most_tests, most_operations}
use Rattle.l6_prog.specs.declared.condition.Cond.{Cond}
use Rattle.l6_card.specs.DeckFault.{DeckFault, form, limit}
use Rattle.l6_card.specs.Items.{PlacedItem}
use Rattle.l6_card.specs.Form.{are_whole, are_prefix, are_within_limits}
use Rattle.l6_card.specs.declared.cards.PlacedLabel.{PlacedLabel}
use Rattle.l6_card.specs.Statement.{DeckStatementParts, is_fit}
use Rattle.l6_card.specs.Denotes.{ItemsDenote}
use Rattle.l6_card.specs.Fault.{objection_met}
use Rattle.l6_card.specs.inner.StatementBuilder.{StatementBuilder, Phase, New, Worded, Tested, Open, Closed, new_builder, statement_from, with_item, builder_then, builder_of}
use Rattle.l6_card.proofs.Steps.{builder_of_append}
use Rattle.l6_card.proofs.Fitness.{items_sound, new_sound, statement_fit}
use Rattle.l6_card.proofs.Viewing.{view, items_seen}
use Rattle.l6_card.proofs.Objections.{objection_of, item_objects}
use Rattle.l6_card.proofs.OperationsDenoted.{builder_at}
use Rattle.l6_card.proofs.Denotations.{denote_when_made}
use Rattle.l6_card.proofs.Building.{either_taken}
use Rattle.l6_card.proofs.Following.{whole_items}
use Rattle.l6_card.proofs.Forms.{View, view_of, view_from}
use Rattle.l6_card.proofs.Beginnings.{whole_begins, few_begin}

-- an item that is not objected to is taken
taken_item : (made : Result StatementBuilder DeckFault) → objection_met made ≡ None →
    (next : StatementBuilder) × (made ≡ Ok next)
taken_item (Ok next) none = (next, refl)
taken_item (Err fault) none = absurd (cc)

no_objection : (card : ℕ) (prefix : Bool) (few : Bool) → prefix ≡ true → few ≡ true →
    cond (not prefix) (Some (form card)) (cond (not few) (Some (limit card)) None) ≡ None
no_objection card true true is_prefix' is_few = refl
no_objection card true false is_prefix' is_few = absurd (cc)
no_objection card false few is_prefix' is_few = absurd (cc)

-- an item with which the items so far are a prefix, within the limits, is taken
next_taken : (i : PlacedItem) (front : List PlacedItem) (builder : StatementBuilder) →
    builder_of new_builder front ≡ Some builder →
    are_prefix (front ++ i ∷ []) ≡ true → are_within_limits (front ++ i ∷ []) ≡ true →
    (next : StatementBuilder) × (with_item i.card builder i.what ≡ Ok next)
    × (builder_of new_builder (front ++ i ∷ []) ≡ Some next)
next_taken i front builder made is_prefix' few =
    let one = i ∷ [] in
    let sound = items_sound front new_builder builder new_sound made in
    let seen : view new_builder (front ++ one) ≡ view builder one =
    items_seen front new_builder builder one new_sound made in
    let none : objection_of i.card (view builder one) ≡ None =
    ap (objection_of i.card) (sym seen)
    ∙ no_objection i.card (are_prefix (front ++ one))
    (are_within_limits (front ++ one)) is_prefix' few in
    let taken =
    taken_item (with_item i.card builder i.what) (item_objects i.card builder i.what sound ∙ none) in (
      taken.0,
      taken.1,
      builder_of_append front one new_builder builder made
          ∙ ap (λ r. builder_then r (λ d. Some d)) taken.1,
    )

-- whole items within the limits make a builder
whole_make : (items front : List PlacedItem) (builder : StatementBuilder) →
    builder_of new_builder front ≡ Some builder →
    are_whole (front ++ items) ≡ true → are_within_limits (front ++ items) ≡ true →
    (final : StatementBuilder) × (builder_of builder items ≡ Some final)
whole_make [] front builder made whole few = (builder, refl)
whole_make (i ∷ items) front builder made whole few =
    let longer = front ++ i ∷ [] in
    let same : longer ++ items ≡ front ++ i ∷ items = append_assoc front (i ∷ []) items in
    let whole' = ap are_whole same ∙ whole in
    let few' = ap are_within_limits same ∙ few in
    let first =
    next_taken i front builder made (whole_begins longer items whole')
    (few_begin longer items whole' few') in
    let others = whole_make items longer first.0 first.2 whole' few' in (
      others.0,
      ap (λ r. builder_then r (λ next. builder_of next items)) first.1
          ∙ others.1,
    )

-- whole items within the limits say a statement that is fit
pub whole_denote : (items : List PlacedItem) →
    are_whole items ≡ true → are_within_limits items ≡ true →
    (statement : DeckStatementParts) × ItemsDenote items statement × (is_fit statement ≡ true)
whole_denote items whole few =
    let made = whole_make items [] new_builder refl whole few in
    let is_so = whole_items items made.0 made.1 ∙ whole in (
      statement_from None made.0,
      denote_when_made items None made.0 is_so made.1,
      statement_fit None made.0 (items_sound items new_builder made.0 new_sound made.1) is_so,
    )

-- no more tests and operations than a builder has
few_in : (phase : Phase) (c : Cond) (n m : ℕ) → n ≤ most_tests → m ≤ most_operations →
    (leb (view_from phase c n m []).tests most_tests
    && leb (view_from phase c n m []).operations most_operations)
    ≡ true
few_in New c n m tests operations = refl
few_in (Worded w) c n m tests operations =
    and_from (leb n most_tests) (leb 0 most_operations) (le-leb n most_tests tests) refl
few_in Tested c n m tests operations =
    and_from (leb (n + 0) most_tests) (leb 0 most_operations)
    (le-leb (n + 0) most_tests (omega arith)) refl
few_in Open c n m tests operations =
    and_from (leb n most_tests) (leb (m + 0) most_operations) (le-leb n most_tests tests)
    (le-leb (m + 0) most_operations (omega arith))
few_in Closed c n m tests operations =
    and_from (leb n most_tests) (leb m most_operations) (le-leb n most_tests tests)
    (le-leb m most_operations operations)

-- items that say a statement that is fit are whole and within the limits
pub denote_whole : (items : List PlacedItem) (statement : DeckStatementParts) →
    ItemsDenote items statement → is_fit statement ≡ true →
    (are_whole items ≡ true) × (are_within_limits items ≡ true)
denote_whole items statement denote fit =
    let made = either_taken items statement fit denote in
    let builder =
    builder_at made.phase statement.condition statement.tests statement.operations statement.exit in
    let sound = items_sound items new_builder builder new_sound made.made in
    let seen : view_of (items ++ []) ≡ view builder [] =
    items_seen items new_builder builder [] new_sound made.made in
    let same : view_of items ≡ view builder [] = ap view_of (sym (append-nil items)) ∙ seen in (
      sym (whole_items items builder made.made) ∙ made.whole,
      ap (λ (v : View). leb v.tests most_tests && leb v.operations most_operations) same
          ∙ few_in builder.phase builder.condition (length builder.tests) (length builder.operations)
          sound.tests sound.operations,
    )

-- items say one statement, its label apart
pub denote_one : (items : List PlacedItem) (one other : DeckStatementParts) →
    ItemsDenote items one → ItemsDenote items other →
    is_fit one ≡ true → is_fit other ≡ true → one.label ≡ other.label → one ≡ other
denote_one items one other denote denote' fit fit' labels =
    let made = either_taken items one fit denote in
    let made' = either_taken items other fit' denote' in
    let builder = builder_at made.phase one.condition one.tests one.operations one.exit in
    let builder' = builder_at made'.phase other.condition other.tests other.operations other.exit in
    let same : builder ≡ builder' = cc (made.made, made'.made) in
    ap (λ (d : StatementBuilder). statement_from one.label d) same
    ∙ ap (λ (l : Option PlacedLabel). statement_from l builder') labels
