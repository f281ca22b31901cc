-- A reader's pass meets the objections of the deck's pieces.
use Rattle.std.proofs.Common.{◌≡◌, ℕ, ◌+◌, List, [], ◌∷◌, ◌++◌, map, length, Bool, true, false, cond, ltb, Option, Some, None, Result, Ok, Err, refl, sym, ap, ◌∙◌, arith, length-append, append-nil}
use Rattle.std.specs.Prelude.{not}
use Rattle.std.specs.Option.{is_some}
use Rattle.l6_card.specs.declared.cards.PlacedLabel.{PlacedLabel}
use Rattle.l6_card.specs.Numerals.{most_deck_statements, most_continuations}
use Rattle.l6_card.specs.declared.objection.Objection.{Objection}
use Rattle.l6_card.specs.declared.objection.Reason.{Reason}
use Rattle.l6_card.specs.declared.objection.Reason.TheVariants.{Column, Unfinished, TooManyStatements, TooManyContinuations, TooManyGroups}
use Rattle.l6_card.specs.DeckFault.{DeckFault, form, limit}
use Rattle.l6_card.specs.Objection.{objects, card_objects, item_objects as item_shows, label_reason}
use Rattle.l6_card.specs.Order.{Expected, expected_after, reason_at}
use Rattle.l6_card.specs.Items.{Item, PlacedItem, item_on, items_of}
use Rattle.l6_card.specs.Card.{Body, Card, skipped, plain, labelled, continued, unknown, cards_of}
use Rattle.l6_card.specs.Statement.{DeckStatementParts, label_on}
use Rattle.l6_card.specs.Form.{are_prefix, are_whole, are_within_limits}
use Rattle.l6_card.specs.Pieces.{Piece, ends, begins, label, item, pieces_of_cards}
use Rattle.l6_card.specs.Fault as determined
use Rattle.l6_card.specs.Fault.{Begun, Known, nothing_known, and_then, column_objects, objection_met, objection_to}
use Rattle.l6_card.specs.ReadAlone.{objection_to_cards}
use Rattle.l6_card.specs.inner.StatementBuilder.{StatementBuilder, new_builder, is_whole, statement_from, with_item, expected_in, builder_then, builder_of}
use Rattle.l6_card.specs.inner.Pass.{Stage, first_stage, stage_if, when_over, when_begun, when_continued, when_labelled, reason_of, when_built, after_pieces, pass_of}
use Rattle.l6_card.proofs.Steps.{builder_of_append}
use Rattle.l6_card.proofs.Fitness.{items_sound, new_sound}
use Rattle.l6_card.proofs.Forms.{View}
use Rattle.l6_card.proofs.Viewing.{view, items_seen}
use Rattle.l6_card.proofs.Expected.{expected_seen}
use Rattle.l6_card.proofs.Objections.{objection_of, item_objects, whole_seen}

abbrev staged : List DeckStatementParts → Bool → Option PlacedLabel → StatementBuilder → Body → ℕ → Stage
staged statements is_open given builder body continuations =
    record {
      statements = statements;
      is_open = is_open;
      label = given;
      builder = builder;
      body = body;
      continuations = continuations;
    }

-- a stage within a statement is what is known of it
record SeesStatement (stage : Stage) (over : ℕ) (statement : Begun) : Type 0 where
  count : over ≡ length stage.statements
  is_open : stage.is_open ≡ true
  body : stage.body ≡ statement.body
  continuations : stage.continuations ≡ statement.continuations
  made : builder_of new_builder statement.items ≡ Some stage.builder

-- a stage is what is known
abbrev Sees : Stage → ℕ → Option Begun → Type 0
Sees stage over None = (over ≡ length stage.statements) × (stage.is_open ≡ false)
Sees stage over (Some statement) = SeesStatement stage over statement

-- a stage is what is known, and a statement has begun
abbrev SeesBegun : Stage → ℕ → Option Begun → Type 0
SeesBegun stage over None = ⊥
SeesBegun stage over (Some statement) = SeesStatement stage over statement

begun_is_seen : (stage : Stage) (over : ℕ) (begun : Option Begun) →
    SeesBegun stage over begun → Sees stage over begun
begun_is_seen stage over None sees = absurd sees
begun_is_seen stage over (Some statement) sees = sees

-- two readings stop at one objection, or lead to what is related
abbrev Agree : (Stage → ℕ → Option Begun → Type 0) → Result Stage Objection →
    Result Known Objection → Type 0
Agree R (Ok stage) (Ok known) = R stage known.over known.begun
Agree R (Err fault) (Err other) = fault ≡ other
Agree R _ _ = ⊥

then_agree : (R Q : Stage → ℕ → Option Begun → Type 0) (pass : Result Stage Objection)
    (other : Result Known Objection)
    (step : Stage → Result Stage Objection) (other_step : Known → Result Known Objection) →
    Agree R pass other →
    ((stage : Stage) (known : Known) → R stage known.over known.begun →
    Agree Q (step stage) (other_step known)) →
    Agree Q (and_then pass step) (and_then other other_step)
then_agree R Q (Ok stage) (Ok known) step other_step agree each = each stage known agree
then_agree R Q (Err fault) (Err other) step other_step agree each = agree
then_agree R Q (Ok stage) (Err other) step other_step agree each = absurd agree
then_agree R Q (Err fault) (Ok known) step other_step agree each = absurd agree

if_agree : (R : Stage → ℕ → Option Begun → Type 0) (holds other_holds : Bool)
    (objection other : Objection) (stage : Stage) (known : Known) →
    holds ≡ other_holds → objection ≡ other → R stage known.over known.begun →
    Agree R (stage_if holds objection stage) (cond other_holds (Ok known) (Err other))
if_agree R true true objection other stage known same same' sees = sees
if_agree R false false objection other stage known same same' sees = same'
if_agree R true false objection other stage known same same' sees = absurd (cc)
if_agree R false true objection other stage known same same' sees = absurd (cc)

-- the builder of items is whole exactly if they are
pub whole_items : (items : List PlacedItem) (builder : StatementBuilder) →
    builder_of new_builder items ≡ Some builder → is_whole builder ≡ are_whole items
whole_items items builder made =
    let seen : view new_builder (items ++ []) ≡ view builder [] =
    items_seen items new_builder builder [] new_sound made in
    sym (whole_seen builder)
    ∙ ap (λ (v : View). v.whole) (sym seen)
    ∙ ap are_whole (append-nil items)

ends_agree : (statements : List DeckStatementParts) (is_open : Bool) (given : Option PlacedLabel)
    (builder : StatementBuilder) (body : Body) (continuations over : ℕ) (begun : Option Begun) →
    let stage = staged statements is_open given builder body continuations in
    Sees stage over begun → Agree Sees (when_over stage) (determined.when_over over begun)
ends_agree statements true given builder body continuations over None sees = absurd (cc (sees.1))
ends_agree statements false given builder body continuations over None sees = (sees.0, refl)
ends_agree statements false given builder body continuations over (Some statement) sees =
    absurd (cc (sees.is_open))
ends_agree statements true given builder body continuations over (Some statement) sees =
    let all = statements ++ statement_from given builder ∷ [] in
    if_agree Sees (is_whole builder) (are_whole statement.items)
    (card_objects body Unfinished) (card_objects statement.body Unfinished)
    (staged all false None new_builder body continuations)
    (record { over = over + 1; begun = None })
    (whole_items statement.items builder sees.made) (ap (λ (b : Body). card_objects b Unfinished) sees.body)
    (omega (arith, sees.count, length-append statements (statement_from given builder ∷ [])), refl)

count_of : (stage : Stage) (over : ℕ) (begun : Option Begun) → Sees stage over begun →
    length stage.statements ≡ over
count_of stage over None sees = sym sees.0
count_of stage over (Some statement) sees = sym sees.count

begins_agree : (stage : Stage) (body : Body) (over : ℕ) (begun : Option Begun) →
    Sees stage over begun → Agree SeesBegun (when_begun body stage) (determined.when_begun body over)
begins_agree stage body over begun sees =
    let count = count_of stage over begun sees in
    if_agree SeesBegun (ltb (length stage.statements) most_deck_statements)
    (ltb over most_deck_statements)
    (card_objects body TooManyStatements) (card_objects body TooManyStatements)
    (staged stage.statements true None new_builder body 0)
    (record { over = over; begun = Some (record { items = []; body = body; continuations = 0 }) })
    (ap (λ n. ltb n most_deck_statements) count) refl
    (record {
      count = sym count;
      is_open = refl;
      body = refl;
      continuations = refl;
      made = refl;
    })

continues_agree : (statements : List DeckStatementParts) (is_open : Bool) (given : Option PlacedLabel)
    (builder : StatementBuilder) (last : Body) (continuations : ℕ) (body : Body) (over : ℕ)
    (begun : Option Begun) →
    let stage = staged statements is_open given builder last continuations in
    Sees stage over begun →
    Agree SeesBegun (when_continued body stage) (determined.when_continued body over begun)
continues_agree statements true given builder last continuations body over None sees =
    absurd (cc (sees.1))
continues_agree statements false given builder last continuations body over None sees = refl
continues_agree statements false given builder last continuations body over (Some statement) sees =
    absurd (cc (sees.is_open))
continues_agree statements true given builder last continuations body over (Some statement) sees =
    if_agree SeesBegun (ltb continuations most_continuations)
    (ltb statement.continuations most_continuations) (column_objects body.card TooManyContinuations)
    (column_objects body.card TooManyContinuations)
    (staged statements true given builder body (continuations + 1))
    (record {
      over = over;
      begun = Some (record statement {
        body = body;
        continuations = statement.continuations + 1;
      });
    })
    (ap (λ n. ltb n most_continuations) sees.continuations) refl
    (record {
      count = sees.count;
      is_open = refl;
      body = refl;
      continuations = ap (λ n. n + 1) sees.continuations;
      made = sees.made;
    })

relabelled : (stage : Stage) (given : PlacedLabel) (over : ℕ) (begun : Option Begun) →
    SeesBegun stage over begun → SeesBegun (record stage { label = Some given }) over begun
relabelled stage given over None sees = absurd sees
relabelled stage given over (Some statement) sees =
    record {
      count = sees.count;
      is_open = sees.is_open;
      body = sees.body;
      continuations = sees.continuations;
      made = sees.made;
    }

label_agree : (found : Option PlacedLabel) (stage : Stage) (card : ℕ) (columns : List ℕ)
    (known : Known) →
    SeesBegun stage known.over known.begun →
    Agree SeesBegun (when_labelled card columns found stage)
    (cond (is_some found) (Ok known)
    (Err (objects card 0 (length columns) (label_reason columns))))
label_agree None stage card columns known sees = refl
label_agree (Some given) stage card columns known sees =
    relabelled stage given known.over known.begun sees

-- two objections of an item, for one reason and of one body
same_item : (one other : Body) (i : Item) (reason why : Reason) → one ≡ other →
    reason ≡ why → item_shows one i reason ≡ item_shows other i why
same_item one other i reason why bodies reasons =
    ap (λ (b : Body). item_shows b i reason) bodies ∙ ap (item_shows other i) reasons

item_agree_in : (made : Result StatementBuilder DeckFault) (prefix few : Bool) (card : ℕ)
    (stage : Stage) (i : Item) (body : Body) (next : Expected) (known : Known) →
    objection_met made ≡ cond (not prefix) (Some (form card))
    (cond (not few) (Some (limit card)) None) →
    stage.body ≡ body → expected_in stage.builder ≡ next →
    ((builder : StatementBuilder) → made ≡ Ok builder →
    SeesBegun (record stage { builder = builder }) known.over known.begun) →
    Agree SeesBegun (when_built i made stage)
    (cond (not prefix) (Err (item_shows body i (reason_at next i)))
    (cond (not few) (Err (item_shows body i TooManyGroups)) (Ok known)))
item_agree_in (Ok builder) true true card stage i body next known same bodies nexts sees =
    sees builder refl
item_agree_in (Ok builder) true false card stage i body next known same bodies nexts sees =
    absurd (cc)
item_agree_in (Ok builder) false few card stage i body next known same bodies nexts sees =
    absurd (cc)
item_agree_in (Err fault) true true card stage i body next known same bodies nexts sees = absurd (cc)
item_agree_in (Err fault) true false card stage i body next known same bodies nexts sees =
    let is_limit : fault ≡ limit card = cc in
    same_item stage.body body i _ TooManyGroups bodies
    (ap (λ f. reason_of f (reason_at (expected_in stage.builder) i)) is_limit)
item_agree_in (Err fault) false few card stage i body next known same bodies nexts sees =
    let is_form : fault ≡ form card = cc in
    same_item stage.body body i _ (reason_at next i) bodies
    (ap (λ f. reason_of f (reason_at (expected_in stage.builder) i)) is_form
    ∙ ap (λ n. reason_at n i) nexts)

item_agree : (stage : Stage) (card : ℕ) (i : Item) (over : ℕ) (begun : Option Begun) →
    SeesBegun stage over begun →
    Agree SeesBegun (when_built i (with_item card stage.builder i) stage)
    (determined.when_item card i over begun)
item_agree stage card i over None sees = absurd sees
item_agree stage card i over (Some statement) sees =
    let one = item_on card i ∷ [] in
    let items = statement.items ++ one in
    let sound = items_sound statement.items new_builder stage.builder new_sound sees.made in
    let seen : view new_builder items ≡ view stage.builder one =
    items_seen statement.items new_builder stage.builder one new_sound sees.made in
    item_agree_in (with_item card stage.builder i) (are_prefix items)
    (are_within_limits items) card stage i statement.body (expected_after statement.items)
    (record { over = over; begun = Some (record statement { items = items }) })
    (item_objects card stage.builder i sound ∙ ap (objection_of card) (sym seen))
    sees.body (sym (expected_seen statement.items stage.builder sees.made))
    (λ next is_made. record {
      count = sees.count;
      is_open = sees.is_open;
      body = sees.body;
      continuations = sees.continuations;
      made = builder_of_append statement.items one new_builder stage.builder sees.made
          ∙ ap (λ r. builder_then r (λ d. Some d)) is_made;
    })

items_agree : (items : List Item) (number : ℕ) (rest : List Piece) (stage : Stage)
    (known : Known) →
    SeesBegun stage known.over known.begun →
    ((s : Stage) (k : Known) → Sees s k.over k.begun →
    Agree Sees (after_pieces s rest) (determined.after_pieces k rest)) →
    Agree Sees (after_pieces stage (map (item number) items ++ rest))
    (determined.after_pieces known (map (item number) items ++ rest))
items_agree [] number rest stage known sees each =
    each stage known (begun_is_seen stage known.over known.begun sees)
items_agree (i ∷ items) number rest stage known sees each =
    then_agree SeesBegun Sees (when_built i (with_item number stage.builder i) stage)
    (determined.when_item number i known.over known.begun)
    (λ s. after_pieces s (map (item number) items ++ rest))
    (λ k. determined.after_pieces k (map (item number) items ++ rest))
    (item_agree stage number i known.over known.begun sees)
    (λ s k sees'. items_agree items number rest s k sees' each)

-- a card begins a statement, with these pieces after
begun_agree : (body : Body) (following : List Piece) (stage : Stage) (known : Known) →
    Sees stage known.over known.begun →
    ((s : Stage) (k : Known) → SeesBegun s k.over k.begun →
    Agree Sees (after_pieces s following) (determined.after_pieces k following)) →
    Agree Sees (after_pieces stage (ends ∷ begins body ∷ following))
    (determined.after_pieces known (ends ∷ begins body ∷ following))
begun_agree body following stage known sees each =
    then_agree Sees Sees (when_over stage) (determined.when_over known.over known.begun)
    (λ s. after_pieces s (begins body ∷ following))
    (λ k. determined.after_pieces k (begins body ∷ following))
    (ends_agree stage.statements stage.is_open stage.label stage.builder stage.body
    stage.continuations known.over known.begun sees)
    (λ s k sees'. then_agree SeesBegun Sees (when_begun body s) (determined.when_begun body k.over)
    (λ s'. after_pieces s' following) (λ k'. determined.after_pieces k' following)
    (begins_agree s body k.over k.begun sees') each)

cards_agree : (cards : List Card) (stage : Stage) (known : Known) →
    Sees stage known.over known.begun →
    Agree Sees (after_pieces stage (pieces_of_cards cards))
    (determined.after_pieces known (pieces_of_cards cards))
cards_agree [] stage known sees =
    then_agree Sees Sees (when_over stage) (determined.when_over known.over known.begun)
    (λ s. Ok s) (λ k. Ok k)
    (ends_agree stage.statements stage.is_open stage.label stage.builder stage.body
    stage.continuations known.over known.begun sees)
    (λ s k sees'. sees')
cards_agree (skipped ∷ cards) stage known sees = cards_agree cards stage known sees
cards_agree (plain body ∷ cards) stage known sees =
    let items = items_of body.offset body.columns in
    let rest = pieces_of_cards cards in
    begun_agree body (map (item body.card) items ++ rest) stage known sees
    (λ s k begun. items_agree items body.card rest s k begun
    (λ s' k' sees'. cards_agree cards s' k' sees'))
cards_agree (labelled columns body ∷ cards) stage known sees =
    let items = items_of body.offset body.columns in
    let rest = pieces_of_cards cards in
    let following = map (item body.card) items ++ rest in
    begun_agree body (label body.card columns ∷ following) stage known sees
    (λ s k begun. then_agree SeesBegun Sees
    (when_labelled body.card columns (label_on body.card columns) s)
    (determined.when_labelled body.card columns k)
    (λ s'. after_pieces s' following) (λ k'. determined.after_pieces k' following)
    (label_agree (label_on body.card columns) s body.card columns k begun)
    (λ s' k' begun'. items_agree items body.card rest s' k' begun'
    (λ s'' k'' sees'. cards_agree cards s'' k'' sees')))
cards_agree (continued body ∷ cards) stage known sees =
    let items = items_of body.offset body.columns in
    let rest = pieces_of_cards cards in
    let following = map (item body.card) items ++ rest in
    then_agree SeesBegun Sees (when_continued body stage)
    (determined.when_continued body known.over known.begun)
    (λ s. after_pieces s following) (λ k. determined.after_pieces k following)
    (continues_agree stage.statements stage.is_open stage.label stage.builder stage.body
    stage.continuations body known.over known.begun sees)
    (λ s k begun. items_agree items body.card rest s k begun
    (λ s' k' sees'. cards_agree cards s' k' sees'))
cards_agree (unknown number ∷ cards) stage known sees =
    then_agree Sees Sees (when_over stage) (determined.when_over known.over known.begun)
    (λ s. Err (column_objects number Column)) (λ k. Err (column_objects number Column))
    (ends_agree stage.statements stage.is_open stage.label stage.builder stage.body
    stage.continuations known.over known.begun sees)
    (λ s k sees'. refl)

one_objection : (pass : Result Stage Objection) (other : Result Known Objection) →
    Agree Sees pass other → objection_met other ≡ objection_met pass
one_objection (Ok stage) (Ok known) agree = refl
one_objection (Err fault) (Err other) agree = ap Some (sym agree)
one_objection (Ok stage) (Err other) agree = absurd agree
one_objection (Err fault) (Ok known) agree = absurd agree

-- the objection to a deck is the one at which a reader's pass stops
pub objection_of_pass : (deck : List ℕ) → objection_to deck ≡ objection_met (pass_of deck)
objection_of_pass deck =
    one_objection (pass_of deck)
    (determined.after_pieces nothing_known (pieces_of_cards (cards_of deck)))
    (cards_agree (cards_of deck) first_stage nothing_known (refl, refl))

-- the same of cards that are read as a deck of their own
pub objection_of_cards_pass : (cards : List Card) →
    objection_to_cards cards ≡ objection_met (after_pieces first_stage (pieces_of_cards cards))
objection_of_cards_pass cards =
    one_objection (after_pieces first_stage (pieces_of_cards cards))
    (determined.after_pieces nothing_known (pieces_of_cards cards))
    (cards_agree cards first_stage nothing_known (refl, refl))
