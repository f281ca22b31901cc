-- The spans of what a deck says.
use Rattle.std.proofs.Common.{◌≡◌, ℕ, ◌+◌, ◌≤◌, List, [], ◌∷◌, ◌++◌, length, map, ltb, Option, Some, None, Ok, refl, sym, ap, ◌∙◌, subst, arith, append_assoc}
use Rattle.std.specs.List.{All}
use Rattle.std.proofs.lemmas.List.{map-append, append-nil}
use Rattle.std.proofs.lemmas.List.Elements.{All-nil, All-cons, All-push}
use Rattle.l6_prog.specs.Numerals.{most_tests, most_operations}
use Rattle.l6_prog.specs.declared.condition.Cond.{Cond}
use Rattle.l6_prog.specs.declared.condition.Cond.TheVariants.{Always, If, Not, IfAll, IfAny, IfNone, IfNotAll}
use Rattle.l6_prog.specs.declared.condition.Test.{Test}
use Rattle.l6_prog.specs.declared.operation.Op.{Op}
use Rattle.l6_prog.specs.declared.exit.Exit.{Exit}
use Rattle.l6_prog.specs.declared.exit.Exit.TheVariants.{Next}
use Rattle.l6_group.specs.declared.label.Label.{Label}
use Rattle.l6_group.specs.Character.{spelled}
use Rattle.l6_group.specs.Operation.{operation_of}
use Rattle.l6_group.specs.Test.{test_of}
use Rattle.l6_group.specs.Word.{condition_from, exit_from, after_then}
use Rattle.l6_card.specs.declared.cards.Placed.{Placed}
use Rattle.l6_card.specs.declared.cards.PlacedLabel.{PlacedLabel}
use Rattle.l6_card.specs.declared.span.Span.{Span}
use Rattle.l6_card.specs.DeckFault.{DeckFault}
use Rattle.l6_card.specs.Items.{Item, group, word, unclosed, unopened, items_of, PlacedItem}
use Rattle.l6_card.specs.Card.{Body, Card, skipped, plain, labelled, continued, unknown, cards_of}
use Rattle.l6_card.specs.Statement.{DeckStatementParts, placed_exit}
use Rattle.l6_card.specs.Spans.{group_span, spans_of, all_spans, Rise}
use Rattle.l6_card.specs.inner.StatementBuilder.{StatementBuilder, Phase, New, Worded, Tested, Open, Closed, new_builder, phase_of, with_operation, with_test, with_further_test, with_placed, with_rest, with_word_in, with_group_in, with_item, builder_of}
use Rattle.l6_card.specs.ReadsAs.{placed_items, continued_items, Denotes, CardsDenote}
use Rattle.l6_card.specs.Laws.{IsSpelled, AreSpelled, GroupsAreAtSpans, SpansRise}
use Rattle.l6_card.proofs.Building.{builders_of}
use Rattle.l6_card.proofs.Steps.{is_prefix}
use Rattle.l6_card.proofs.Fitness.{decided}
use Rattle.l6_card.proofs.Offsets.{GroupStands, ItemsArePrefix, BodyStands, CardsArePrefixes, end_of, items_fit_append, body_items, deck_holds}

-- spans that rise may begin sooner
rise_sooner : (from later : ℕ) (spans : List Span) (end : ℕ) → from ≤ later →
    Rise later spans end → Rise from spans end
rise_sooner from later [] end soon rise = omega (arith, rise)
rise_sooner from later (span ∷ spans) end soon rise = (omega (arith, rise.0), rise.1)

-- and they may end later
rise_later : (from : ℕ) (spans : List Span) (end later : ℕ) → end ≤ later →
    Rise from spans end → Rise from spans later
rise_later from [] end later soon rise = omega (arith, rise)
rise_later from (span ∷ spans) end later soon rise =
    (rise.0, rise_later (span.offset + span.length) spans end later soon rise.1)

-- spans in a row rise
rise_append : (from middle end : ℕ) (front following : List Span) →
    Rise from front middle → Rise middle following end → Rise from (front ++ following) end
rise_append from middle end [] following rise rise' = rise_sooner from middle following end rise rise'
rise_append from middle end (span ∷ front) following rise rise' =
    (rise.0, rise_append (span.offset + span.length) middle end front following rise.1 rise')

-- a builder in this phase has no operations, if tests may come
abbrev MayHave : Phase → List (Placed (Op Label)) → Type 0
MayHave New operations = operations ≡ []
MayHave (Worded condition) operations = operations ≡ []
MayHave Tested operations = operations ≡ []
MayHave Open operations = Unit {0}
MayHave Closed operations = Unit {0}

-- the spans of a builder
abbrev builder_spans : StatementBuilder → List Span
builder_spans builder =
    map (λ (test : Placed Test). test.span) builder.tests
    ++ map (λ (operation : Placed (Op Label)). operation.span) builder.operations

-- what every builder has whose groups are in the deck between two offsets
record BuilderIsPrefix (deck : List ℕ) (from end : ℕ) (builder : StatementBuilder) : Type 0 where
  pub rise : Rise from (builder_spans builder) end
  pub tests : All (IsSpelled test_of deck) builder.tests
  pub operations : All (IsSpelled operation_of deck) builder.operations
  pub may_have : MayHave builder.phase builder.operations

-- the span of a group comes after others
rise_push : (from end : ℕ) (spans : List Span) (offset : ℕ) (columns : List ℕ) →
    Rise from spans end → end ≤ offset →
    Rise from (spans ++ group_span offset columns ∷ []) (offset + length columns + 2)
rise_push from end spans offset columns rise after =
    rise_append from end (offset + length columns + 2) spans (group_span offset columns ∷ []) rise
    (after, omega arith)

-- after an operation the groups are still at their spans
operation_holds : (deck : List ℕ) (from end card offset : ℕ) (columns : List ℕ)
    (builder next : StatementBuilder) (found : Option (Op Label)) →
    BuilderIsPrefix deck from end builder → end ≤ offset → GroupStands deck offset columns →
    operation_of columns ≡ found →
    with_operation card (group_span offset columns) builder found ≡ Ok next →
    BuilderIsPrefix deck from (offset + length columns + 2) next
operation_holds deck from end card offset columns builder next None are_prefix after group'
    is_found made
    = absurd (cc)
operation_holds deck from end card offset columns builder next
    (Some operation) are_prefix after group' is_found made =
    let span = group_span offset columns in
    let one : Placed (Op Label) = record { reading = operation; card = card; span = span } in
    let more = builder.operations ++ one ∷ [] in
    let so = decided {E = DeckFault} (ltb (length builder.operations) most_operations)
    (record builder { phase = Open; operations = more }) next _ made in
    let tests = map (λ (test : Placed Test). test.span) builder.tests in
    let spans = map (λ (o : Placed (Op Label)). o.span) builder.operations in
    let same : (tests ++ spans) ++ span ∷ []
    ≡ tests ++ map (λ (o : Placed (Op Label)). o.span) more =
    append_assoc tests spans (span ∷ [])
    ∙ ap (λ s. tests ++ s)
    (sym (map-append (λ (o : Placed (Op Label)). o.span) builder.operations (one ∷ []))) in
    subst (BuilderIsPrefix deck from (offset + length columns + 2)) so.same (record {
      rise = subst (λ (s : List Span). Rise from s (offset + length columns + 2)) same
          (rise_push from end (tests ++ spans) offset columns are_prefix.rise after);
      tests = are_prefix.tests;
      operations = All-push (IsSpelled operation_of deck) builder.operations one are_prefix.operations
          (record {
            columns = columns;
            inner = group'.inner;
            bytes = group'.bytes;
            reads = is_found;
          });
      may_have = tt;
    })

-- so they are after a test, where no operation came before
test_holds : (deck : List ℕ) (from end card offset : ℕ) (columns : List ℕ)
    (builder next : StatementBuilder) (condition : Cond) (found : Option Test) →
    BuilderIsPrefix deck from end builder → builder.operations ≡ [] → end ≤ offset →
    GroupStands deck offset columns → test_of columns ≡ found →
    with_test card (group_span offset columns) builder condition found ≡ Ok next →
    BuilderIsPrefix deck from (offset + length columns + 2) next
test_holds deck from end card offset columns builder next condition
    None are_prefix none after group' is_found made = absurd (cc)
test_holds deck from end card offset columns builder next condition
    (Some test) are_prefix none after group' is_found made =
    let span = group_span offset columns in
    let one : Placed Test = record { reading = test; card = card; span = span } in
    let more = builder.tests ++ one ∷ [] in
    let so = decided {E = DeckFault} (ltb (length builder.tests) most_tests)
    (record builder { phase = Tested; condition = condition; tests = more; exit = Next }) next _ made
    in
    let tests = map (λ (t : Placed Test). t.span) builder.tests in
    let spans : List (Placed (Op Label)) → List Span =
    λ operations. map (λ (o : Placed (Op Label)). o.span) operations in
    let before : builder_spans builder ≡ tests =
    ap (λ o. tests ++ spans o) none ∙ append-nil tests in
    let now : tests ++ span ∷ []
    ≡ map (λ (t : Placed Test). t.span) more ++ spans builder.operations =
    sym (map-append (λ (t : Placed Test). t.span) builder.tests (one ∷ []))
    ∙ sym (append-nil (map (λ (t : Placed Test). t.span) more))
    ∙ ap (λ o. map (λ (t : Placed Test). t.span) more ++ spans o) (sym none) in
    let rise : Rise from tests end =
    subst (λ (s : List Span). Rise from s end) before are_prefix.rise in
    subst (BuilderIsPrefix deck from (offset + length columns + 2)) so.same (record {
      rise = subst (λ (s : List Span). Rise from s (offset + length columns + 2)) now
          (rise_push from end tests offset columns rise after);
      tests = All-push (IsSpelled test_of deck) builder.tests one are_prefix.tests (record {
        columns = columns;
        inner = group'.inner;
        bytes = group'.bytes;
        reads = is_found;
      });
      operations = are_prefix.operations;
      may_have = none;
    })

further_holds : (deck : List ℕ) (from end card offset : ℕ) (columns : List ℕ)
    (builder next : StatementBuilder) (condition : Cond) (found : Option Test) →
    BuilderIsPrefix deck from end builder → builder.operations ≡ [] → end ≤ offset →
    GroupStands deck offset columns → test_of columns ≡ found →
    with_further_test card (group_span offset columns) builder condition found ≡ Ok next →
    BuilderIsPrefix deck from (offset + length columns + 2) next
further_holds deck from end card offset columns builder next If found are_prefix none after group'
    is_found made = absurd (cc)
further_holds deck from end card offset columns builder next Not found are_prefix none after group'
    is_found made = absurd (cc)
further_holds deck from end card offset columns builder next Always found are_prefix none after group'
    is_found made =
    test_holds deck from end card offset columns builder next Always found are_prefix none after group'
    is_found made
further_holds deck from end card offset columns builder next IfAll found are_prefix none after group'
    is_found made =
    test_holds deck from end card offset columns builder next IfAll found are_prefix none after group'
    is_found made
further_holds deck from end card offset columns builder next IfAny found are_prefix none after group'
    is_found made =
    test_holds deck from end card offset columns builder next IfAny found are_prefix none after group'
    is_found made
further_holds deck from end card offset columns builder next IfNone found are_prefix none after group'
    is_found made =
    test_holds deck from end card offset columns builder next IfNone found are_prefix none after group'
    is_found made
further_holds deck from end card offset columns builder next IfNotAll found are_prefix none after
    group'
    is_found made =
    test_holds deck from end card offset columns builder next IfNotAll found are_prefix none after
    group'
    is_found made

-- and after any group
group_holds_in : (phase : Phase) (deck : List ℕ) (from end card offset : ℕ) (columns : List ℕ)
    (builder next : StatementBuilder) →
    BuilderIsPrefix deck from end builder → MayHave phase builder.operations → end ≤ offset →
    GroupStands deck offset columns →
    with_group_in phase card (group_span offset columns) builder columns ≡ Ok next →
    BuilderIsPrefix deck from (offset + length columns + 2) next
group_holds_in New deck from end card offset columns builder next are_prefix may after group' made =
    operation_holds deck from end card offset columns builder next (operation_of columns)
    are_prefix after group' refl made
group_holds_in Open deck from end card offset columns builder next are_prefix may after group' made =
    operation_holds deck from end card offset columns builder next (operation_of columns)
    are_prefix after group' refl made
group_holds_in (Worded w) deck from end card offset columns builder next are_prefix may after group'
    made =
    test_holds deck from end card offset columns builder next w (test_of columns)
    are_prefix may after group' refl made
group_holds_in Tested deck from end card offset columns builder next are_prefix may after group' made =
    further_holds deck from end card offset columns builder next builder.condition (test_of columns)
    are_prefix may after group' refl made
group_holds_in Closed deck from end card offset columns builder next are_prefix may after group' made =
    absurd (cc)

-- a word leaves the groups as they are
placed_holds : (deck : List ℕ) (from end card : ℕ) (builder next : StatementBuilder) (phase : Phase)
    (found : Option (Exit Label)) →
    BuilderIsPrefix deck from end builder → MayHave phase builder.operations →
    with_placed card builder phase found ≡ Ok next → BuilderIsPrefix deck from end next
placed_holds deck from end card builder next phase None are_prefix may made = absurd (cc)
placed_holds deck from end card builder next phase (Some given) are_prefix may made =
    let same : record builder { phase = phase; exit = placed_exit card given } ≡ next = cc in
    subst (BuilderIsPrefix deck from end) same (record {
      rise = are_prefix.rise;
      tests = are_prefix.tests;
      operations = are_prefix.operations;
      may_have = may;
    })

rest_holds : (deck : List ℕ) (from end card : ℕ) (builder next : StatementBuilder)
    (found : Option (List ℕ)) →
    BuilderIsPrefix deck from end builder → with_rest card builder found ≡ Ok next →
    BuilderIsPrefix deck from end next
rest_holds deck from end card builder next None are_prefix made = absurd (cc)
rest_holds deck from end card builder next (Some []) are_prefix made =
    let same : record builder { phase = Open } ≡ next = cc in
    subst (BuilderIsPrefix deck from end) same (record {
      rise = are_prefix.rise;
      tests = are_prefix.tests;
      operations = are_prefix.operations;
      may_have = tt;
    })
rest_holds deck from end card builder next (Some (first ∷ rest)) are_prefix made =
    placed_holds deck from end card builder next Closed (exit_from (first ∷ rest)) are_prefix tt made

first_may : (found : Option Cond) (operations : List (Placed (Op Label))) →
    operations ≡ [] → MayHave (phase_of found) operations
first_may None operations none = tt
first_may (Some condition) operations none = none

word_holds_in : (phase : Phase) (deck : List ℕ) (from end card : ℕ) (builder next : StatementBuilder)
    (characters : List ℕ) →
    BuilderIsPrefix deck from end builder → MayHave phase builder.operations →
    with_word_in phase card builder characters ≡ Ok next → BuilderIsPrefix deck from end next
word_holds_in New deck from end card builder next characters are_prefix may made =
    placed_holds deck from end card builder next (phase_of (condition_from characters))
    (exit_from characters) are_prefix
    (first_may (condition_from characters) builder.operations may) made
word_holds_in Open deck from end card builder next characters are_prefix may made =
    placed_holds deck from end card builder next Closed (exit_from characters) are_prefix tt made
word_holds_in Tested deck from end card builder next characters are_prefix may made =
    rest_holds deck from end card builder next (after_then characters) are_prefix made
word_holds_in (Worded w) deck from end card builder next characters are_prefix may made = absurd (cc)
word_holds_in Closed deck from end card builder next characters are_prefix may made = absurd (cc)

-- the items of placed ones
abbrev whats : List PlacedItem → List Item
whats items = map (λ (i : PlacedItem). i.what) items

-- a builder whose groups are there, and the items that are left
record Left (deck : List ℕ) (from : ℕ) (builder : StatementBuilder) (items : List Item)
    (end : ℕ) : Type 0 where
  pub middle : ℕ
  pub builder_holds : BuilderIsPrefix deck from middle builder
  pub items_fit : ItemsArePrefix deck middle items end

item_left : (i : Item) (deck : List ℕ) (from end card : ℕ) (builder next : StatementBuilder)
    (items : List Item) →
    Left deck from builder (i ∷ items) end → with_item card builder i ≡ Ok next →
    Left deck from next items end
item_left (group offset columns) deck from end card builder next items left made = record {
  middle = offset + length columns + 2;
  builder_holds = group_holds_in builder.phase deck from left.middle card offset columns builder next
      left.builder_holds left.builder_holds.may_have left.items_fit.0 left.items_fit.1 made;
  items_fit = left.items_fit.2;
}
item_left (word at past columns) deck from end card builder next items left made = record {
  middle = left.middle;
  builder_holds = word_holds_in builder.phase deck from left.middle card builder next
      (spelled columns)
      left.builder_holds left.builder_holds.may_have made;
  items_fit = left.items_fit;
}
item_left (unclosed at) deck from end card builder next items left made = absurd (cc)
item_left (unopened at columns) deck from end card builder next items left made = absurd (cc)

items_left : (items : List PlacedItem) (deck : List ℕ) (from end : ℕ)
    (builder final : StatementBuilder) →
    Left deck from builder (whats items) end → builder_of builder items ≡ Some final →
    BuilderIsPrefix deck from end final
items_left [] deck from end builder final left made =
    let same : builder ≡ final = cc in
    subst (BuilderIsPrefix deck from end) same (record {
      rise = rise_later from (builder_spans builder) left.middle end left.items_fit
          left.builder_holds.rise;
      tests = left.builder_holds.tests;
      operations = left.builder_holds.operations;
      may_have = left.builder_holds.may_have;
    })
items_left (i ∷ items) deck from end builder final left made =
    let first = is_prefix (with_item i.card builder i.what)
    (λ next. builder_of next items) final made in
    items_left items deck from end first.next final
    (item_left i.what deck from end i.card builder first.next (whats items) left first.is_made)
    first.rest

-- what a statement has that is in the deck between two offsets
record StatementStands (deck : List ℕ) (from end : ℕ) (statement : DeckStatementParts) : Type 0 where
  pub rise : Rise from (spans_of statement) end
  pub spelled : AreSpelled deck statement

statement_holds : (deck : List ℕ) (from end : ℕ) (given : Option PlacedLabel)
    (items : List PlacedItem) (further : ℕ) (statement : DeckStatementParts) →
    Denotes given items further statement → ItemsArePrefix deck from (whats items) end →
    StatementStands deck from end statement
statement_holds deck from end given items further statement denotes are_prefix =
    let empty : BuilderIsPrefix deck from from new_builder =
    record {
      rise = omega arith;
      tests = All-nil (IsSpelled test_of deck);
      operations = All-nil (IsSpelled operation_of deck);
      may_have = refl;
    } in
    let builders = builders_of given items further statement denotes in
    let kept_builder =
    items_left items deck from end new_builder builders.builder
    (record { middle = from; builder_holds = empty; items_fit = are_prefix }) builders.items_make in
    subst (StatementStands deck from end) (sym builders.statement_is) (record {
      rise = kept_builder.rise;
      spelled = record { tests = kept_builder.tests; operations = kept_builder.operations };
    })

whats_placed : (card : ℕ) (items : List Item) →
    whats (map (λ i. record { card = card; what = i }) items) ≡ items
whats_placed card [] = refl
whats_placed card (i ∷ items) = ap (λ is. i ∷ is) (whats_placed card items)

-- the items of a body, and then those after it
body_first : (deck : List ℕ) (from end : ℕ) (body : Body) (items : List PlacedItem) →
    BodyStands deck from body → ItemsArePrefix deck (end_of body) (whats items) end →
    ItemsArePrefix deck from (whats (placed_items body ++ items)) end
body_first deck from end body items is_prefix' are_prefix =
    let own = items_of body.offset body.columns in
    let same : own ++ whats items ≡ whats (placed_items body ++ items) =
    ap (λ (is : List Item). is ++ whats items) (sym (whats_placed body.card own))
    ∙ sym (map-append (λ (i : PlacedItem). i.what) (placed_items body) items) in
    subst (λ (is : List Item). ItemsArePrefix deck from is end) same
    (items_fit_append deck from (end_of body) end own (whats items)
    (body_items deck from body is_prefix') are_prefix)

-- what cards say: the items that continue the statement before are first, and then the statements
record CardsRise (deck : List ℕ) (from : ℕ) (cards : List Card)
    (statements : List DeckStatementParts) : Type 0 where
  pub middle : ℕ
  pub items : ItemsArePrefix deck from (whats (continued_items cards)) middle
  pub rise : Rise middle (all_spans statements) (length deck)
  pub spelled : All (AreSpelled deck) statements

-- a statement, and then those after it
begun_rise : (deck : List ℕ) (from : ℕ) (given : Option PlacedLabel) (body : Body)
    (cards : List Card) (further : ℕ) (statement : DeckStatementParts)
    (statements : List DeckStatementParts) →
    BodyStands deck from body →
    Denotes given (placed_items body ++ continued_items cards) further statement →
    CardsRise deck (end_of body) cards statements →
    (Rise from (all_spans (statement ∷ statements)) (length deck))
    × All (AreSpelled deck) (statement ∷ statements)
begun_rise deck from given body cards further statement statements is_prefix' denotes following =
    let one =
    statement_holds deck from following.middle given (placed_items body ++ continued_items cards)
    further statement denotes
    (body_first deck from following.middle body (continued_items cards) is_prefix' following.items) in (
      rise_append from following.middle (length deck) (spans_of statement) (all_spans statements)
          one.rise following.rise,
      All-cons (AreSpelled deck) statement statements one.spelled following.spelled,
    )

cards_rise : (cards : List Card) (deck : List ℕ) (from : ℕ) (statements : List DeckStatementParts) →
    CardsArePrefixes deck from cards → CardsDenote cards statements →
    CardsRise deck from cards statements
cards_rise [] deck from [] are_prefix denote = record {
  middle = from;
  items = omega arith;
  rise = are_prefix;
  spelled = All-nil (AreSpelled deck);
}
cards_rise [] deck from (statement ∷ statements) are_prefix denote = absurd denote
cards_rise (skipped ∷ cards) deck from statements are_prefix denote =
    let following = cards_rise cards deck from statements are_prefix denote in
    record {
      middle = following.middle;
      items = following.items;
      rise = following.rise;
      spelled = following.spelled;
    }
cards_rise (continued body ∷ cards) deck from statements are_prefix denote =
    let following = cards_rise cards deck (end_of body) statements are_prefix.1 denote in
    record {
      middle = following.middle;
      items = body_first deck from following.middle body
          (continued_items cards) are_prefix.0 following.items;
      rise = following.rise;
      spelled = following.spelled;
    }
cards_rise (plain body ∷ cards) deck from [] are_prefix denote = absurd denote
cards_rise (plain body ∷ cards) deck from (statement ∷ statements) are_prefix denote =
    let following = cards_rise cards deck (end_of body) statements are_prefix.1 denote.1 in
    let all =
    begun_rise deck from None body cards _ statement statements are_prefix.0 denote.0 following in
    record { middle = from; items = omega arith; rise = all.0; spelled = all.1 }
cards_rise (labelled columns body ∷ cards) deck from [] are_prefix denote = absurd denote
cards_rise (labelled columns body ∷ cards) deck from (statement ∷ statements) are_prefix denote =
    let following = cards_rise cards deck (end_of body) statements are_prefix.1 denote.1 in
    let all =
    begun_rise deck from (Some denote.0.0) body cards _ statement statements are_prefix.0 denote.0.2
    following in
    record { middle = from; items = omega arith; rise = all.0; spelled = all.1 }
cards_rise (unknown number ∷ cards) deck from statements are_prefix denote = absurd denote

pub groups_are_at_spans : GroupsAreAtSpans
groups_are_at_spans deck statements reads =
    (cards_rise (cards_of deck) deck 0 statements (deck_holds deck) reads.cards).spelled

pub spans_rise : SpansRise
spans_rise deck statements reads =
    let denoted = cards_rise (cards_of deck) deck 0 statements (deck_holds deck) reads.cards in
    rise_sooner 0 denoted.middle (all_spans statements) (length deck) (omega arith) denoted.rise
