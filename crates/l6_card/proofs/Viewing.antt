-- A builder keeps the view of the items that it is made of.
use Rattle.std.proofs.Common.{◌≡◌, ℕ, ◌+◌, List, [], ◌∷◌, ◌++◌, length, Bool, true, false, ltb, Option, Some, None, Ok, refl, sym, ap, ◌∙◌, arith, length-append}
use Rattle.std.specs.Option.{is_some}
use Rattle.std.proofs.lemmas.Bool.{eqb-true, and_parts}
use Rattle.l6_prog.specs.Numerals.{most_tests, most_operations}
use Rattle.l6_prog.specs.Program.{may_have}
use Rattle.l6_prog.specs.declared.condition.Cond.{Cond}
use Rattle.l6_prog.specs.declared.condition.Cond.TheVariants.{Always, If, Not, IfAll, IfAny, IfNone, IfNotAll}
use Rattle.l6_prog.specs.declared.condition.Test.{Test}
use Rattle.l6_prog.specs.declared.operation.Op.{Op}
use Rattle.l6_prog.specs.declared.exit.Exit.{Exit}
use Rattle.l6_prog.specs.declared.exit.Exit.TheVariants.{Next}
use Rattle.l6_group.specs.declared.label.Label.{Label}
use Rattle.l6_group.specs.Character.{spelled}
use Rattle.l6_group.specs.Operation.{operation_of}
use Rattle.l6_group.specs.Test.{test_of}
use Rattle.l6_group.specs.Word.{condition_from, exit_from, after_then}
use Rattle.l6_card.specs.declared.cards.Placed.{Placed}
use Rattle.l6_card.specs.declared.span.Span.{Span}
use Rattle.l6_card.specs.Spans.{group_span}
use Rattle.l6_card.specs.DeckFault.{DeckFault}
use Rattle.l6_card.specs.Items.{Item, group, word, unclosed, unopened, PlacedItem, item_on}
use Rattle.l6_card.specs.Statement.{placed_exit}
use Rattle.l6_card.specs.Form.{condition_in, is_operation, is_exit}
use Rattle.l6_card.specs.inner.StatementBuilder.{StatementBuilder, Phase, New, Worded, Tested, Open, Closed, phase_of, with_operation, with_test, with_further_test, with_placed, with_rest, with_word_in, with_group_in, with_item, builder_of}
use Rattle.l6_card.proofs.Steps.{is_prefix}
use Rattle.l6_card.proofs.Fitness.{IsSound, IsFreshIn, is_sound_in, decided, item_sound}
use Rattle.l6_card.proofs.Spellings.{following_then_spelled}
use Rattle.l6_card.proofs.Forms.{View, view_of, plain_view, closed_view, tested_view, view_from, unconditional, open_operation, open_exit, new_condition, one_more_test, then_leads}

-- the view of a builder and the items after it
abbrev pub view : StatementBuilder → List PlacedItem → View
view builder rest =
    view_from builder.phase builder.condition (length builder.tests) (length builder.operations) rest

-- a builder that has one more operation, and of one more test
record OneMore (found : Bool) (seen : View) (wanted : View) : Type 0 where
  is_found : found ≡ true
  same : wanted ≡ seen

operation_seen : (card : ℕ) (span : Span) (builder next : StatementBuilder) (found : Option (Op Label))
    (rest : List PlacedItem) →
    with_operation card span builder found ≡ Ok next →
    OneMore (is_some found) (view next rest)
    (plain_view (length builder.tests) (length builder.operations + 1) rest)
operation_seen card span builder next None rest made = absurd (cc)
operation_seen card span builder next (Some operation) rest made =
    let one : Placed (Op Label) = record { reading = operation; card = card; span = span } in
    let more = builder.operations ++ one ∷ [] in
    let so = decided {E = DeckFault} (ltb (length builder.operations) most_operations)
    (record builder { phase = Open; operations = more }) next _ made in
    let count : length builder.operations + 1 ≡ length more =
    omega (arith, length-append builder.operations (one ∷ [])) in
    record {
      is_found = refl;
      same = ap (λ m. plain_view (length builder.tests) m rest) count
          ∙ ap (λ (d : StatementBuilder). view d rest) so.same;
    }

test_seen : (card : ℕ) (span : Span) (builder next : StatementBuilder) (c : Cond) (found : Option Test)
    (rest : List PlacedItem) →
    with_test card span builder c found ≡ Ok next →
    OneMore (is_some found) (view next rest) (tested_view c (length builder.tests + 1) rest)
test_seen card span builder next c None rest made = absurd (cc)
test_seen card span builder next c (Some test) rest made =
    let one : Placed Test = record { reading = test; card = card; span = span } in
    let more = builder.tests ++ one ∷ [] in
    let so = decided {E = DeckFault} (ltb (length builder.tests) most_tests)
    (record builder { phase = Tested; condition = c; tests = more; exit = Next }) next _ made in
    let count : length builder.tests + 1 ≡ length more =
    omega (arith, length-append builder.tests (one ∷ [])) in
    record {
      is_found = refl;
      same = ap (λ n. tested_view c n rest) count ∙ ap (λ (d : StatementBuilder). view d rest) so.same;
    }

exit_seen : (card : ℕ) (builder next : StatementBuilder) (phase : Phase) (found : Option (Exit Label))
    (rest : List PlacedItem) →
    with_placed card builder phase found ≡ Ok next →
    OneMore (is_some found) (view next rest)
    (view_from phase builder.condition (length builder.tests) (length builder.operations) rest)
exit_seen card builder next phase None rest made = absurd (cc)
exit_seen card builder next phase (Some given) rest made =
    let same : record builder { phase = phase; exit = placed_exit card given } ≡ next = cc in
    record { is_found = refl; same = ap (λ (d : StatementBuilder). view d rest) same }

-- a further test is a test
pub further_is_test : (card : ℕ) (span : Span) (builder next : StatementBuilder) (c : Cond)
    (found : Option Test)
    →
    with_further_test card span builder c found ≡ Ok next → with_test card span builder c found ≡ Ok
    next
further_is_test card span builder next Always found made = made
further_is_test card span builder next If found made = absurd (cc)
further_is_test card span builder next Not found made = absurd (cc)
further_is_test card span builder next IfAll found made = made
further_is_test card span builder next IfAny found made = made
further_is_test card span builder next IfNone found made = made
further_is_test card span builder next IfNotAll found made = made

-- there is no test so far
pub none_so_far : (c : Cond) (n : ℕ) → is_sound_in New c n ≡ true → n ≡ 0
none_so_far Always n sound = eqb-true n 0 sound
none_so_far If n sound = absurd (cc)
none_so_far Not n sound = absurd (cc)
none_so_far IfAll n sound = absurd (cc)
none_so_far IfAny n sound = absurd (cc)
none_so_far IfNone n sound = absurd (cc)
none_so_far IfNotAll n sound = absurd (cc)

group_seen : (phase : Phase) (card offset : ℕ) (builder next : StatementBuilder) (columns : List ℕ)
    (rest : List PlacedItem) →
    is_sound_in phase builder.condition (length builder.tests) ≡ true →
    IsFreshIn phase (length builder.operations) →
    with_group_in phase card (group_span offset columns) builder columns ≡ Ok next →
    view_from phase builder.condition (length builder.tests) (length builder.operations)
    (item_on card (group offset columns) ∷ rest)
    ≡ view next rest
group_seen New card offset builder next columns rest sound fresh made =
    let i = item_on card (group offset columns) in
    let none = none_so_far builder.condition (length builder.tests) sound in
    let one = operation_seen card (group_span offset columns) builder next (operation_of columns) rest
    made in
    unconditional i rest refl
    ∙ open_operation i 0 0 rest one.is_found
    ∙ ap (λ n. plain_view n (0 + 1) rest) (sym none)
    ∙ ap (λ m. plain_view (length builder.tests) (m + 1) rest) (sym fresh)
    ∙ one.same
group_seen Open card offset builder next columns rest sound fresh made =
    let one = operation_seen card (group_span offset columns) builder next (operation_of columns) rest
    made in
    open_operation (item_on card (group offset columns)) (length builder.tests)
    (length builder.operations)
    rest one.is_found
    ∙ one.same
group_seen (Worded w) card offset builder next columns rest sound fresh made =
    let one = test_seen card (group_span offset columns) builder next w (test_of columns) rest made in
    one_more_test (item_on card (group offset columns)) w (length builder.tests) rest one.is_found
    ∙ one.same
group_seen Tested card offset builder next columns rest sound fresh made =
    let is_one = further_is_test card (group_span offset columns) builder next builder.condition
    (test_of columns) made in
    let one = test_seen card (group_span offset columns) builder next builder.condition
    (test_of columns) rest is_one in
    one_more_test (item_on card (group offset columns)) builder.condition (length builder.tests) rest
    one.is_found
    ∙ one.same
group_seen Closed card offset builder next columns rest sound fresh made = absurd (cc)

-- a first word
pub first_seen : (i : PlacedItem) (found : Option Cond) (c : Cond) (rest : List PlacedItem) →
    condition_in i.what ≡ found → is_operation i ≡ false → is_exit i ≡ true →
    view_of (i ∷ rest) ≡ view_from (phase_of found) c 0 0 rest
first_seen i None c rest is_found is_no is_one =
    unconditional i rest is_found ∙ open_exit i 0 0 rest is_no is_one
first_seen i (Some w) c rest is_found is_no is_one = new_condition i w rest is_found is_no is_one

-- what follows THEN in the same word
rest_seen : (card at past : ℕ) (builder next : StatementBuilder) (columns : List ℕ) (found : Option (List ℕ))
    (rest : List PlacedItem) →
    after_then (spelled columns) ≡ found →
    may_have builder.condition (length builder.tests) ≡ true → length builder.operations ≡ 0 →
    with_rest card builder found ≡ Ok next →
    tested_view builder.condition (length builder.tests) (item_on card (word at past columns) ∷ rest)
    ≡ view next rest
rest_seen card at past builder next columns None rest is_found fits fresh made = absurd (cc)
rest_seen card at past builder next columns (Some []) rest is_found fits fresh made =
    let same : record builder { phase = Open } ≡ next = cc in
    then_leads (item_on card (word at past columns)) builder.condition (length builder.tests) [] rest refl
    is_found fits
    ∙ ap (λ m. plain_view (length builder.tests) m rest) (sym fresh)
    ∙ ap (λ (d : StatementBuilder). view d rest) same
rest_seen card at past builder next columns (Some (x ∷ xs)) rest is_found fits fresh made =
    let one = exit_seen card builder next Closed (exit_from (x ∷ xs)) rest made in
    let again = following_then_spelled columns (x ∷ xs) is_found in
    let is_one = ap (λ cs. is_some (exit_from cs)) again ∙ one.is_found in
    then_leads (item_on card (word at past columns)) builder.condition (length builder.tests) (x ∷ xs) rest
    refl is_found fits
    ∙ open_exit (item_on card (word 0 0 (x ∷ xs))) (length builder.tests) 0 rest refl is_one
    ∙ ap (λ m. closed_view (length builder.tests) m rest) (sym fresh)
    ∙ one.same

word_seen : (phase : Phase) (card at past : ℕ) (builder next : StatementBuilder) (columns : List ℕ)
    (rest : List PlacedItem) →
    is_sound_in phase builder.condition (length builder.tests) ≡ true →
    IsFreshIn phase (length builder.operations) →
    with_word_in phase card builder (spelled columns) ≡ Ok next →
    view_from phase builder.condition (length builder.tests) (length builder.operations)
    (item_on card (word at past columns) ∷ rest)
    ≡ view next rest
word_seen New card at past builder next columns rest sound fresh made =
    let found = condition_from (spelled columns) in
    let none = none_so_far builder.condition (length builder.tests) sound in
    let one =
    exit_seen card builder next (phase_of found) (exit_from (spelled columns)) rest made in
    first_seen (item_on card (word at past columns)) found builder.condition rest refl refl one.is_found
    ∙ ap (λ n. view_from (phase_of found) builder.condition n 0 rest) (sym none)
    ∙ ap (λ m. view_from (phase_of found) builder.condition (length builder.tests) m rest) (sym fresh)
    ∙ one.same
word_seen Open card at past builder next columns rest sound fresh made =
    let one = exit_seen card builder next Closed (exit_from (spelled columns)) rest made in
    open_exit (item_on card (word at past columns)) (length builder.tests) (length builder.operations) rest
    refl one.is_found
    ∙ one.same
word_seen Tested card at past builder next columns rest sound fresh made =
    let parts =
    and_parts (ltb 0 (length builder.tests))
    (may_have builder.condition (length builder.tests)) sound in
    rest_seen card at past builder next columns (after_then (spelled columns)) rest refl parts.1 fresh made
word_seen (Worded w) card at past builder next columns rest sound fresh made = absurd (cc)
word_seen Closed card at past builder next columns rest sound fresh made = absurd (cc)

-- an item that is taken leaves the view
pub item_seen : (card : ℕ) (builder next : StatementBuilder) (i : Item) (rest : List PlacedItem) →
    IsSound builder → with_item card builder i ≡ Ok next →
    view builder (item_on card i ∷ rest) ≡ view next rest
item_seen card builder next (group offset columns) rest sound made =
    group_seen builder.phase card offset builder next columns rest sound.condition sound.fresh made
item_seen card builder next (word at past columns) rest sound made =
    word_seen builder.phase card at past builder next columns rest sound.condition sound.fresh made
item_seen card builder next (unclosed at) rest sound made = absurd (cc)
item_seen card builder next (unopened at columns) rest sound made = absurd (cc)

-- items that make a builder leave the view
pub items_seen : (items : List PlacedItem) (builder final : StatementBuilder) (rest : List PlacedItem) →
    IsSound builder → builder_of builder items ≡ Some final →
    view builder (items ++ rest) ≡ view final rest
items_seen [] builder final rest sound made =
    let same : builder ≡ final = cc in
    ap (λ (d : StatementBuilder). view d rest) same
items_seen (i ∷ items) builder final rest sound made =
    let first = is_prefix (with_item i.card builder i.what)
    (λ next. builder_of next items) final made in
    item_seen i.card builder first.next i.what (items ++ rest) sound first.is_made
    ∙ items_seen items first.next final rest
    (item_sound i.card builder first.next i.what sound first.is_made) first.rest
