-- The statement that items say is that of the builder that they make, where the builder is whole.
use Rattle.std.proofs.Common.{◌≡◌, inl, inr, ℕ, List, [], ◌∷◌, ◌++◌, map, length, true, false, ltb, Option, Some, None, Ok, refl, sym, ap, ◌∙◌, subst, append_assoc, append-nil}
use Rattle.std.specs.Option.{option_map}
use Rattle.l6_prog.specs.Numerals.{most_tests}
use Rattle.l6_prog.specs.declared.condition.Cond.{Cond}
use Rattle.l6_prog.specs.declared.condition.Cond.TheVariants.{Always}
use Rattle.l6_prog.specs.declared.condition.Test.{Test}
use Rattle.l6_prog.specs.declared.operation.Op.{Op}
use Rattle.l6_prog.specs.declared.exit.Exit.{Exit}
use Rattle.l6_prog.specs.declared.exit.Exit.TheVariants.{Next}
use Rattle.l6_group.specs.declared.label.Label.{Label}
use Rattle.l6_group.specs.Character.{spelled}
use Rattle.l6_group.specs.Operation.{operation_of}
use Rattle.l6_group.specs.Test.{test_of}
use Rattle.l6_group.specs.Word.{condition_from, exit_from, after_then}
use Rattle.l6_card.specs.declared.cards.Placed.{Placed}
use Rattle.l6_card.specs.declared.cards.PlacedLabel.{PlacedLabel}
use Rattle.l6_card.specs.declared.span.Span.{Span}
use Rattle.l6_card.specs.Spans.{group_span}
use Rattle.l6_card.specs.DeckFault.{DeckFault}
use Rattle.l6_card.specs.Items.{Item, group, word, unclosed, unopened, PlacedItem, item_on}
use Rattle.l6_card.specs.Statement.{placed_exit}
use Rattle.l6_card.specs.Form.{condition_in, following_then, word_on}
use Rattle.l6_card.specs.Denotes.{test_on, exit_on, DenoteOperationsAndExit, ItemsDenote}
use Rattle.l6_card.specs.inner.StatementBuilder.{StatementBuilder, Worded, Tested, Closed, new_builder, phase_of, is_whole, statement_from, with_operation, with_test, with_further_test, with_placed, with_rest, with_item, builder_then, builder_of}
use Rattle.l6_card.proofs.Steps.{is_prefix}
use Rattle.l6_card.proofs.Fitness.{decided}
use Rattle.l6_card.proofs.Spellings.{following_then_spelled}
use Rattle.l6_card.proofs.Viewing.{further_is_test}
use Rattle.l6_card.proofs.OperationsDenoted.{Tests, builder_at, OpenSaid, exit_denoted, operation_denoted, operated, exited, open_denoted}

-- a test that was taken
record TestTaken (card : ℕ) (span : Span) (builder : StatementBuilder) (c : Cond) (found : Option Test)
    (next : StatementBuilder) : Type 0 where
  test : Test
  is_found : found ≡ Some test
  same : next ≡ record builder {
    phase = Tested;
    condition = c;
    tests = builder.tests ++ record { reading = test; card = card; span = span } ∷ [];
    exit = Next;
  }

test_taken : (card : ℕ) (span : Span) (builder : StatementBuilder) (c : Cond) (found : Option Test)
    (next : StatementBuilder) →
    with_test card span builder c found ≡ Ok next → TestTaken card span builder c found next
test_taken card span builder c None next made = absurd (cc)
test_taken card span builder c (Some test) next made =
    let so = decided {E = DeckFault} (ltb (length builder.tests) most_tests)
    (record builder {
      phase = Tested;
      condition = c;
      tests = builder.tests ++ record { reading = test; card = card; span = span } ∷ [];
      exit = Next;
    }) next _ made in
    record { test = test; is_found = refl; same = sym so.same }

-- what items say after a condition and some of its tests
record TestedSaid (items : List PlacedItem) (c : Cond) (before : Tests)
    (final : StatementBuilder) : Type 0 where
  groups : List PlacedItem
  others : List PlacedItem
  following : List PlacedItem
  more : Tests
  in_order : items ≡ groups ++ others
  tests : map test_on groups ≡ map Some more
  leads : following_then others ≡ Some following
  denote : OpenSaid following c (before ++ more) [] final

test_denoted : (i : PlacedItem) (items : List PlacedItem) (c : Cond) (before : Tests)
    (one : Placed Test) (final : StatementBuilder) →
    test_on i ≡ Some one →
    TestedSaid items c (before ++ one ∷ []) final → TestedSaid (i ∷ items) c before final
test_denoted i items c before one final is_one later =
    record {
      groups = i ∷ later.groups;
      others = later.others;
      following = later.following;
      more = one ∷ later.more;
      in_order = ap (λ is. i ∷ is) later.in_order;
      tests = cc (is_one, later.tests);
      leads = later.leads;
      denote = subst (λ (ts : Tests). OpenSaid later.following c ts [] final)
          (append_assoc before (one ∷ []) later.more) later.denote;
    }

then_denoted : (i : PlacedItem) (items following : List PlacedItem) (c : Cond) (before : Tests)
    (final : StatementBuilder) →
    following_then (i ∷ items) ≡ Some following → OpenSaid following c before [] final →
    TestedSaid (i ∷ items) c before final
then_denoted i items following c before final leads denote =
    record {
      groups = [];
      others = i ∷ items;
      following = following;
      more = [];
      in_order = refl;
      tests = refl;
      leads = leads;
      denote = subst (λ (ts : Tests). OpenSaid following c ts [] final)
          (sym (append-nil before)) denote;
    }

then_word : (columns : List ℕ) (at past card : ℕ) (items : List PlacedItem) (c : Cond) (before : Tests)
    (final : StatementBuilder) (found : Option (List ℕ)) →
    after_then (spelled columns) ≡ found →
    builder_then (with_rest card (builder_at Tested c before [] Next) found)
    (λ next. builder_of next items)
    ≡ Some final →
    TestedSaid (item_on card (word at past columns) ∷ items) c before final
then_word columns at past card items c before final None is_found made = absurd (cc)
then_word columns at past card items c before final (Some []) is_found made =
    then_denoted (item_on card (word at past columns)) items items c before final
    (ap (option_map (λ characters. word_on card characters ++ items)) is_found)
    (open_denoted items c before [] final made)
then_word columns at past card items c before final (Some (x ∷ xs)) is_found made =
    let i = item_on card (word 0 0 (x ∷ xs)) in
    let builder = builder_at Tested c before [] Next in
    let first =
    is_prefix (with_placed card builder Closed (exit_from (x ∷ xs)))
    (λ next. builder_of next items) final
    made in
    let one = exited card builder Closed (exit_from (x ∷ xs)) first.next first.is_made in
    let again = following_then_spelled columns (x ∷ xs) is_found in
    then_denoted (item_on card (word at past columns)) items (i ∷ items) c before final
    (ap (option_map (λ characters. word_on card characters ++ items)) is_found)
    (exit_denoted i items c before [] one.given final
    (ap (λ cs. option_map (placed_exit card) (exit_from cs)) again
    ∙ ap (option_map (placed_exit card)) one.is_found)
    (ap (λ (d : StatementBuilder). builder_of d items) (sym one.same) ∙ first.rest))

tested_item : (what : Item) (card : ℕ) (items : List PlacedItem) (c : Cond) (before : Tests)
    (final : StatementBuilder) →
    ((more : Tests) → builder_of (builder_at Tested c more [] Next) items ≡ Some final →
    TestedSaid items c more final) →
    builder_then (with_item card (builder_at Tested c before [] Next) what)
    (λ next. builder_of next items)
    ≡ Some final →
    TestedSaid (item_on card what ∷ items) c before final
tested_item (group offset columns) card items c before final each made =
    let builder = builder_at Tested c before [] Next in
    let first =
    is_prefix (with_further_test card (group_span offset columns) builder c (test_of columns))
    (λ next. builder_of next items) final
    made in
    let one =
    test_taken card (group_span offset columns) builder c (test_of columns) first.next
    (further_is_test card (group_span offset columns) builder first.next c (test_of columns)
    first.is_made) in
    let placed : Placed Test = record
    { reading = one.test; card = card; span = group_span offset columns } in
    test_denoted (item_on card (group offset columns)) items c before placed final
    (ap (option_map (λ t. record { reading = t; card = card; span = group_span offset columns }))
    one.is_found)
    (each (before ++ placed ∷ [])
    (ap (λ (d : StatementBuilder). builder_of d items) (sym one.same) ∙ first.rest))
tested_item (word at past columns) card items c before final each made =
    then_word columns at past card items c before final (after_then (spelled columns)) refl made
tested_item (unclosed at) card items c before final each made = absurd (cc)
tested_item (unopened at columns) card items c before final each made = absurd (cc)

tested_denoted : (items : List PlacedItem) (c : Cond) (before : Tests) (final : StatementBuilder) →
    is_whole final ≡ true →
    builder_of (builder_at Tested c before [] Next) items ≡ Some final →
    TestedSaid items c before final
tested_denoted [] c before final whole made =
    let same : builder_at Tested c before [] Next ≡ final = cc in
    let none : false ≡ true = ap is_whole same ∙ whole in
    absurd (cc)
tested_denoted (i ∷ items) c before final whole made =
    tested_item i.what i.card items c before final
    (λ more makes. tested_denoted items c more final whole makes) made

-- what follows a condition, or a statement without one
operations_and_exit_denoted : (items : List PlacedItem) (c : Cond) (tests : Tests)
    (label : Option PlacedLabel)
    (final : StatementBuilder) →
    OpenSaid items c tests [] final → DenoteOperationsAndExit items (statement_from label final)
operations_and_exit_denoted items c tests label final denoted =
    record {
      groups = denoted.groups;
      last = denoted.last;
      in_order = denoted.in_order;
      operations = denoted.operations ∙ ap (map Some) (sym denoted.all);
      exit = denoted.exit;
    }

plain_denoted : (items : List PlacedItem) (label : Option PlacedLabel) (final : StatementBuilder) →
    OpenSaid items Always [] [] final → ItemsDenote items (statement_from label final)
plain_denoted items label final denoted =
    inl (record {
      condition = denoted.condition;
      tests = denoted.same_tests;
      denote = operations_and_exit_denoted items Always [] label final denoted;
    })

conditional_denoted : (i : PlacedItem) (items : List PlacedItem) (w : Cond)
    (label : Option PlacedLabel)
    (final : StatementBuilder) →
    condition_in i.what ≡ Some w → TestedSaid items w [] final →
    ItemsDenote (i ∷ items) (statement_from label final)
conditional_denoted i items w label final is_word denoted =
    inr (record {
      first = i;
      groups = denoted.groups;
      others = denoted.others;
      following = denoted.following;
      in_order = ap (λ is. i ∷ is) denoted.in_order;
      condition = is_word ∙ ap Some (sym denoted.denote.condition);
      tests = denoted.tests ∙ ap (map Some) (sym denoted.denote.same_tests);
      leads = denoted.leads;
      denote = operations_and_exit_denoted denoted.following w denoted.more label final denoted.denote;
    })

worded_item : (i : PlacedItem) (what : Item) (card : ℕ) (items : List PlacedItem) (w : Cond)
    (exit : Exit PlacedLabel) (label : Option PlacedLabel) (final : StatementBuilder) →
    condition_in i.what ≡ Some w → is_whole final ≡ true →
    builder_then (with_item card (builder_at (Worded w) Always [] [] exit) what)
    (λ next. builder_of next items)
    ≡ Some final →
    ItemsDenote (i ∷ item_on card what ∷ items) (statement_from label final)
worded_item i (group offset columns) card items w exit label final is_word whole made =
    let builder = builder_at (Worded w) Always [] [] exit in
    let first =
    is_prefix (with_test card (group_span offset columns) builder w (test_of columns))
    (λ next. builder_of next items) final made in
    let one = test_taken card (group_span offset columns) builder w (test_of columns) first.next
    first.is_made in
    let placed : Placed Test = record
    { reading = one.test; card = card; span = group_span offset columns } in
    let denoted =
    tested_denoted items w (placed ∷ []) final whole
    (ap (λ (d : StatementBuilder). builder_of d items) (sym one.same) ∙ first.rest) in
    conditional_denoted i (item_on card (group offset columns) ∷ items) w label final is_word
    (test_denoted (item_on card (group offset columns)) items w [] placed final
    (ap (option_map (λ t. record { reading = t; card = card; span = group_span offset columns }))
    one.is_found) denoted)
worded_item i (word at past columns) card items w exit label final is_word whole made = absurd (cc)
worded_item i (unclosed at) card items w exit label final is_word whole made = absurd (cc)
worded_item i (unopened at columns) card items w exit label final is_word whole made = absurd (cc)

worded_denoted : (i : PlacedItem) (items : List PlacedItem) (w : Cond) (given : Exit Label)
    (label : Option PlacedLabel) (final : StatementBuilder) →
    condition_in i.what ≡ Some w → exit_on (i ∷ []) ≡ Some (placed_exit i.card given) →
    is_whole final ≡ true →
    builder_of (builder_at (Worded w) Always [] [] (placed_exit i.card given)) items ≡ Some final →
    ItemsDenote (i ∷ items) (statement_from label final)
worded_denoted i [] w given label final is_word is_exit whole made =
    let same : builder_at (Worded w) Always [] [] (placed_exit i.card given) ≡ final = cc in
    plain_denoted (i ∷ []) label final (record {
      groups = [];
      last = i ∷ [];
      more = [];
      in_order = refl;
      operations = refl;
      all = ap (λ (d : StatementBuilder). d.operations) (sym same);
      exit = is_exit ∙ ap (λ (d : StatementBuilder). Some d.exit) same;
      condition = ap (λ (d : StatementBuilder). d.condition) (sym same);
      same_tests = ap (λ (d : StatementBuilder). d.tests) (sym same);
    })
worded_denoted i (j ∷ items) w given label final is_word is_exit whole made =
    worded_item i j.what j.card items w (placed_exit i.card given) label final is_word whole made

first_word_denoted : (i : PlacedItem) (items : List PlacedItem) (found : Option Cond)
    (given : Exit Label)
    (label : Option PlacedLabel) (final : StatementBuilder) →
    condition_in i.what ≡ found → exit_on (i ∷ []) ≡ Some (placed_exit i.card given) →
    is_whole final ≡ true →
    builder_of (builder_at (phase_of found) Always [] [] (placed_exit i.card given)) items
    ≡ Some final →
    ItemsDenote (i ∷ items) (statement_from label final)
first_word_denoted i items None given label final is_found is_exit whole made =
    plain_denoted (i ∷ items) label final (exit_denoted i items Always [] [] given final is_exit made)
first_word_denoted i items (Some w) given label final is_found is_exit whole made =
    worded_denoted i items w given label final is_found is_exit whole made

first_item_denoted : (what : Item) (card : ℕ) (items : List PlacedItem) (label : Option PlacedLabel)
    (final : StatementBuilder) →
    is_whole final ≡ true →
    builder_then (with_item card new_builder what) (λ next. builder_of next items) ≡ Some final →
    ItemsDenote (item_on card what ∷ items) (statement_from label final)
first_item_denoted (group offset columns) card items label final whole made =
    let first =
    is_prefix (with_operation card (group_span offset columns) new_builder (operation_of columns))
    (λ next. builder_of next items)
    final made in
    let one = operated card (group_span offset columns) new_builder (operation_of columns) first.next
    first.is_made in
    let placed : Placed (Op Label) = record
    { reading = one.operation; card = card; span = group_span offset columns } in
    plain_denoted (item_on card (group offset columns) ∷ items) label final
    (operation_denoted (item_on card (group offset columns)) items Always [] [] placed final
    (ap (option_map (λ o. record { reading = o; card = card; span = group_span offset columns }))
    one.is_found)
    (open_denoted items Always [] (placed ∷ []) final
    (ap (λ (d : StatementBuilder). builder_of d items) (sym one.same) ∙ first.rest)))
first_item_denoted (word at past columns) card items label final whole made =
    let phase = phase_of (condition_from (spelled columns)) in
    let found = exit_from (spelled columns) in
    let first =
    is_prefix (with_placed card new_builder phase found) (λ next. builder_of next items) final made in
    let one = exited card new_builder phase found first.next first.is_made in
    first_word_denoted (item_on card (word at past columns)) items (condition_from (spelled columns)) one.given
    label final refl
    (ap (option_map (placed_exit card)) one.is_found) whole
    (ap (λ (d : StatementBuilder). builder_of d items) (sym one.same) ∙ first.rest)
first_item_denoted (unclosed at) card items label final whole made = absurd (cc)
first_item_denoted (unopened at columns) card items label final whole made = absurd (cc)

-- items that make a whole builder say its statement
pub denote_when_made : (items : List PlacedItem) (label : Option PlacedLabel)
    (final : StatementBuilder) →
    is_whole final ≡ true → builder_of new_builder items ≡ Some final →
    ItemsDenote items (statement_from label final)
denote_when_made [] label final whole made =
    let same : new_builder ≡ final = cc in
    plain_denoted [] label final (record {
      groups = [];
      last = [];
      more = [];
      in_order = refl;
      operations = refl;
      all = ap (λ (d : StatementBuilder). d.operations) (sym same);
      exit = ap (λ (d : StatementBuilder). Some d.exit) same;
      condition = ap (λ (d : StatementBuilder). d.condition) (sym same);
      same_tests = ap (λ (d : StatementBuilder). d.tests) (sym same);
    })
denote_when_made (i ∷ items) label final whole made =
    first_item_denoted i.what i.card items label final whole made
