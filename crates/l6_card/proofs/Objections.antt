-- What an item objects shows in the view of the builder and the item.
use Rattle.std.proofs.Common.{◌≡◌, ℕ, ◌+◌, ◌≤◌, List, [], ◌∷◌, length, Bool, true, false, cond, ltb, leb, eqb, Option, Some, None, Ok, Err, refl, sym, ap, ◌∙◌, arith}
use Rattle.std.specs.Prelude.{◌&&◌, not, if◌then◌else◌}
use Rattle.std.specs.Option.{is_some}
use Rattle.std.proofs.lemmas.Bool.{ltb-true, eqb-true, le-leb, lt-ltb, ltb-false, lt-leb, and_parts}
use Rattle.l6_prog.specs.Numerals.{most_tests, most_operations}
use Rattle.l6_prog.specs.Program.{may_have}
use Rattle.l6_prog.specs.declared.condition.Cond.{Cond}
use Rattle.l6_prog.specs.declared.condition.Cond.TheVariants.{Always, If, Not, IfAll, IfAny, IfNone, IfNotAll}
use Rattle.l6_prog.specs.declared.condition.Test.{Test}
use Rattle.l6_prog.specs.declared.operation.Op.{Op}
use Rattle.l6_prog.specs.declared.exit.Exit.{Exit}
use Rattle.l6_group.specs.declared.label.Label.{Label}
use Rattle.l6_group.specs.Character.{spelled}
use Rattle.l6_group.specs.Operation.{operation_of}
use Rattle.l6_group.specs.Test.{test_of}
use Rattle.l6_group.specs.Word.{condition_from, exit_from, after_then}
use Rattle.l6_card.specs.declared.span.Span.{Span}
use Rattle.l6_card.specs.Spans.{group_span}
use Rattle.l6_card.specs.DeckFault.{DeckFault, form, limit}
use Rattle.l6_card.specs.Items.{Item, group, word, unclosed, unopened, PlacedItem, item_on}
use Rattle.l6_card.specs.Fault.{objection_met}
use Rattle.l6_card.specs.Form.{condition_in, then_in, is_operation, is_test, is_exit, following_then}
use Rattle.l6_card.specs.inner.StatementBuilder.{StatementBuilder, Phase, New, Worded, Tested, Open, Closed, phase_of, is_whole, is_whole_in, with_operation, with_test, with_further_test, with_placed, with_rest, with_word_in, with_group_in, with_item}
use Rattle.l6_card.proofs.Fitness.{IsSound, IsFreshIn, is_sound_in, worded_fits, tested_always}
use Rattle.l6_card.proofs.Spellings.{following_then_spelled, condition_is_exit}
use Rattle.l6_card.proofs.Forms.{View, view_of, plain_view, joined_view, tested_view, view_from, unconditional, open_operation, open_exit, one_more_test, no_more_tests, then_leads}
use Rattle.l6_card.proofs.Viewing.{view, none_so_far, first_seen}

-- what an item on this card objects whose items have this view
abbrev pub objection_of : ℕ → View → Option DeckFault
objection_of card seen =
    if not seen.prefix then Some (form card)
    else if not (leb seen.tests most_tests && leb seen.operations most_operations) then Some
    (limit card)
    else None

-- a view of items that are a prefix, within the limits
fine : (card n m : ℕ) (whole : Bool) → n ≤ most_tests → m ≤ most_operations →
    objection_of card (record { whole = whole; prefix = true; tests = n; operations = m }) ≡ None
fine card n m whole tests operations =
    rw (le-leb n most_tests tests, le-leb m most_operations operations) refl

-- one more, where there is room for it or not
room_for_operation : (room : Bool) (card n m : ℕ) (whole : Bool) (builder : StatementBuilder) →
    ltb m most_operations ≡ room → n ≤ most_tests →
    objection_met (cond room (Ok builder) (Err (limit card)))
    ≡ objection_of card
    (record { whole = whole; prefix = true; tests = n; operations = m + 1 + 0 })
room_for_operation true card n m whole builder is_room tests =
    let more = ltb-true m most_operations is_room in
    sym (fine card n (m + 1 + 0) whole tests (omega arith))
room_for_operation false card n m whole builder is_room tests =
    let most = ltb-false m most_operations is_room in
    rw (le-leb n most_tests tests, lt-leb (m + 1 + 0) most_operations (omega arith)) refl

room_for_test : (room : Bool) (card n : ℕ) (whole : Bool) (builder : StatementBuilder) →
    ltb n most_tests ≡ room →
    objection_met (cond room (Ok builder) (Err (limit card)))
    ≡ objection_of card
    (record { whole = whole; prefix = true; tests = n + 1 + 0; operations = 0 })
room_for_test true card n whole builder is_room =
    let more = ltb-true n most_tests is_room in
    sym (fine card (n + 1 + 0) 0 whole (omega arith) (omega arith))
room_for_test false card n whole builder is_room =
    let most = ltb-false n most_tests is_room in
    rw (lt-leb (n + 1 + 0) most_tests (omega arith)) refl

-- an item that must be an operation, after operations
operation_objects : (i : PlacedItem) (card : ℕ) (span : Span) (builder : StatementBuilder)
    (found : Option (Op Label)) →
    is_operation i ≡ is_some found → is_exit i ≡ false → length builder.tests ≤ most_tests →
    objection_met (with_operation card span builder found)
    ≡ objection_of card (plain_view (length builder.tests) (length builder.operations) (i ∷ []))
operation_objects i card span builder None is_no is_none tests = rw (is_no, is_none) refl
operation_objects i card span builder (Some operation) is_one is_none tests =
    room_for_operation (ltb (length builder.operations) most_operations) card (length builder.tests)
    (length builder.operations) true _ refl tests
    ∙ ap (objection_of card)
    (sym (open_operation i (length builder.tests) (length builder.operations) [] is_one))

-- an item that must be an exit, after operations
exit_objects : (i : PlacedItem) (card n m : ℕ) (builder : StatementBuilder) (phase : Phase)
    (found : Option (Exit Label)) →
    is_operation i ≡ false → is_exit i ≡ is_some found → n ≤ most_tests → m ≤ most_operations →
    objection_met (with_placed card builder phase found) ≡ objection_of card (plain_view n m (i ∷ []))
exit_objects i card n m builder phase None is_no is_none tests operations =
    rw (is_no, is_none) refl
exit_objects i card n m builder phase (Some given) is_no is_one tests operations =
    sym (fine card n m true tests operations)
    ∙ ap (objection_of card) (sym (open_exit i n m [] is_no is_one))

-- an item that is no test, and no THEN
no_test_objects : (i : PlacedItem) (card n : ℕ) (c : Cond) →
    is_test i ≡ false → then_in i.what ≡ None →
    Some (form card) ≡ objection_of card (tested_view c n (i ∷ []))
no_test_objects i card n c is_no no_then =
    sym (ap (objection_of card) (no_more_tests i c n [] is_no)
    ∙ rw no_then refl)

test_objects : (i : PlacedItem) (card : ℕ) (span : Span) (builder : StatementBuilder) (c : Cond)
    (found : Option Test) →
    is_test i ≡ is_some found → then_in i.what ≡ None →
    may_have c (length builder.tests + 1) ≡ true →
    objection_met (with_test card span builder c found)
    ≡ objection_of card (tested_view c (length builder.tests) (i ∷ []))
test_objects i card span builder c None is_no no_then fits =
    no_test_objects i card (length builder.tests) c is_no no_then
test_objects i card span builder c (Some test) is_one no_then fits =
    let n = length builder.tests in
    let count : n + 1 + 0 ≡ n + 1 = omega arith in
    let all : may_have c (n + 1 + 0) ≡ true = ap (may_have c) count ∙ fits in
    room_for_test (ltb n most_tests) card n false _ refl
    ∙ ap (λ b. objection_of card
    (record { whole = false; prefix = b; tests = n + 1 + 0; operations = 0 })) (sym all)
    ∙ ap (objection_of card) (sym (one_more_test i c n [] is_one))

-- a test that the condition does not have any more
spare_test_objects : (i : PlacedItem) (card n : ℕ) (c : Cond) (found : Option Test) →
    is_test i ≡ is_some found → then_in i.what ≡ None → may_have c (n + 1) ≡ false →
    Some (form card) ≡ objection_of card (tested_view c n (i ∷ []))
spare_test_objects i card n c None is_no no_then many = no_test_objects i card n c is_no no_then
spare_test_objects i card n c (Some test) is_one no_then many =
    let count : n + 1 + 0 ≡ n + 1 = omega arith in
    let none : may_have c (n + 1 + 0) ≡ false = ap (may_have c) count ∙ many in
    ap (λ b. objection_of card
    (record { whole = false; prefix = b; tests = n + 1 + 0; operations = 0 })) (sym none)
    ∙ ap (objection_of card) (sym (one_more_test i c n [] is_one))

one_test : (n : ℕ) → (ltb 0 n && eqb n 1) ≡ true → eqb (n + 1) 1 ≡ false
one_test n sound =
    let one = eqb-true n 1 (and_parts (ltb 0 n) (eqb n 1) sound).1 in
    rw one refl

further_objects : (i : PlacedItem) (card : ℕ) (span : Span) (builder : StatementBuilder) (c : Cond)
    (found : Option Test) →
    is_test i ≡ is_some found → then_in i.what ≡ None →
    is_sound_in Tested c (length builder.tests) ≡ true →
    objection_met (with_further_test card span builder c found)
    ≡ objection_of card (tested_view c (length builder.tests) (i ∷ []))
further_objects i card span builder Always found same no_then sound =
    absurd (tested_always (length builder.tests) sound)
further_objects i card span builder If found same no_then sound =
    spare_test_objects i card (length builder.tests) If found same no_then
    (one_test (length builder.tests) sound)
further_objects i card span builder Not found same no_then sound =
    spare_test_objects i card (length builder.tests) Not found same no_then
    (one_test (length builder.tests) sound)
further_objects i card span builder IfAll found same no_then sound =
    test_objects i card span builder IfAll found same no_then
    (lt-ltb 0 (length builder.tests + 1) (omega arith))
further_objects i card span builder IfAny found same no_then sound =
    test_objects i card span builder IfAny found same no_then
    (lt-ltb 0 (length builder.tests + 1) (omega arith))
further_objects i card span builder IfNone found same no_then sound =
    test_objects i card span builder IfNone found same no_then
    (lt-ltb 0 (length builder.tests + 1) (omega arith))
further_objects i card span builder IfNotAll found same no_then sound =
    test_objects i card span builder IfNotAll found same no_then
    (lt-ltb 0 (length builder.tests + 1) (omega arith))

group_objects : (phase : Phase) (card offset : ℕ) (builder : StatementBuilder) (columns : List ℕ) →
    IsSound builder →
    is_sound_in phase builder.condition (length builder.tests) ≡ true →
    IsFreshIn phase (length builder.operations) →
    objection_met (with_group_in phase card (group_span offset columns) builder columns)
    ≡ objection_of card
    (view_from phase builder.condition (length builder.tests) (length builder.operations)
    (item_on card (group offset columns) ∷ []))
group_objects New card offset builder columns whole sound fresh =
    let i = item_on card (group offset columns) in
    let none = none_so_far builder.condition (length builder.tests) sound in
    operation_objects i card (group_span offset columns) builder (operation_of columns) refl refl
    whole.tests
    ∙ ap (λ n. objection_of card (plain_view n (length builder.operations) (i ∷ []))) none
    ∙ ap (λ m. objection_of card (plain_view 0 m (i ∷ []))) fresh
    ∙ ap (objection_of card) (sym (unconditional i [] refl))
group_objects Open card offset builder columns whole sound fresh =
    operation_objects (item_on card (group offset columns)) card (group_span offset columns) builder
    (operation_of columns) refl refl
    whole.tests
group_objects (Worded w) card offset builder columns whole sound fresh =
    test_objects (item_on card (group offset columns)) card (group_span offset columns) builder w
    (test_of columns) refl refl
    (worded_fits w builder.condition (length builder.tests) sound)
group_objects Tested card offset builder columns whole sound fresh =
    further_objects (item_on card (group offset columns)) card (group_span offset columns) builder
    builder.condition (test_of columns)
    refl refl sound
group_objects Closed card offset builder columns whole sound fresh = refl

-- a first word
open_after_word : (found : Option Cond) (card : ℕ) (c : Cond) →
    None ≡ objection_of card (view_from (phase_of found) c 0 0 [])
open_after_word None card c = refl
open_after_word (Some w) card c = refl

first_objects : (i : PlacedItem) (card : ℕ) (builder : StatementBuilder) (found : Option Cond)
    (given : Option (Exit Label)) →
    condition_in i.what ≡ found → is_operation i ≡ false → is_exit i ≡ is_some given →
    ((c : Cond) → found ≡ Some c → is_some given ≡ true) →
    objection_met (with_placed card builder (phase_of found) given)
    ≡ objection_of card (view_of (i ∷ []))
first_objects i card builder None None is_found is_no is_one exits =
    exit_objects i card 0 0 builder Closed None is_no is_one (omega arith) (omega arith)
    ∙ ap (objection_of card) (sym (unconditional i [] is_found))
first_objects i card builder (Some c) None is_found is_no is_one exits =
    let so = exits c refl in
    absurd (cc)
first_objects i card builder found (Some given) is_found is_no is_one exits =
    open_after_word found card builder.condition
    ∙ ap (objection_of card) (sym (first_seen i found builder.condition [] is_found is_no is_one))

-- what follows THEN in the same word
rest_objects : (card at past : ℕ) (builder : StatementBuilder) (columns : List ℕ) (found : Option (List ℕ)) →
    after_then (spelled columns) ≡ found → length builder.tests ≤ most_tests →
    may_have builder.condition (length builder.tests) ≡ true →
    objection_met (with_rest card builder found)
    ≡ objection_of card
    (tested_view builder.condition (length builder.tests) (item_on card (word at past columns) ∷ []))
rest_objects card at past builder columns None is_found tests fits =
    no_test_objects (item_on card (word at past columns)) card (length builder.tests) builder.condition refl
    is_found
rest_objects card at past builder columns (Some []) is_found tests fits =
    sym (fine card (length builder.tests) (0 + 0) true tests (omega arith))
    ∙ ap (objection_of card)
    (sym (then_leads (item_on card (word at past columns)) builder.condition (length builder.tests) [] [] refl
    is_found fits))
rest_objects card at past builder columns (Some (x ∷ xs)) is_found tests fits =
    let again = following_then_spelled columns (x ∷ xs) is_found in
    exit_objects (item_on card (word 0 0 (x ∷ xs))) card (length builder.tests) 0 builder Closed
    (exit_from (x ∷ xs)) refl (ap (λ cs. is_some (exit_from cs)) again) tests (omega arith)
    ∙ ap (objection_of card)
    (sym (then_leads (item_on card (word at past columns)) builder.condition (length builder.tests) (x ∷ xs) []
    refl is_found fits))

-- a condition word without a test is no prefix with THEN
pub needs_some : (w : Cond) → may_have w 1 ≡ true → may_have w 0 ≡ false
needs_some Always needs = absurd (cc)
needs_some If needs = refl
needs_some Not needs = refl
needs_some IfAll needs = refl
needs_some IfAny needs = refl
needs_some IfNone needs = refl
needs_some IfNotAll needs = refl

worded_none : (w c : Cond) (n : ℕ) → is_sound_in (Worded w) c n ≡ true → may_have w n ≡ false
worded_none w Always n sound =
    let parts = and_parts (eqb n 0) (may_have w 1) sound in
    ap (may_have w) (eqb-true n 0 parts.0) ∙ needs_some w parts.1
worded_none w If n sound = absurd (cc)
worded_none w Not n sound = absurd (cc)
worded_none w IfAll n sound = absurd (cc)
worded_none w IfAny n sound = absurd (cc)
worded_none w IfNone n sound = absurd (cc)
worded_none w IfNotAll n sound = absurd (cc)

joined_objects : (card n : ℕ) (following : Option (List PlacedItem)) →
    Some (form card) ≡ objection_of card (joined_view false n following)
joined_objects card n None = refl
joined_objects card n (Some following) = refl

word_objects : (phase : Phase) (card at past : ℕ) (builder : StatementBuilder) (columns : List ℕ) →
    IsSound builder →
    is_sound_in phase builder.condition (length builder.tests) ≡ true →
    objection_met (with_word_in phase card builder (spelled columns))
    ≡ objection_of card
    (view_from phase builder.condition (length builder.tests) (length builder.operations)
    (item_on card (word at past columns) ∷ []))
word_objects New card at past builder columns whole sound =
    first_objects (item_on card (word at past columns)) card builder (condition_from (spelled columns))
    (exit_from (spelled columns)) refl refl refl
    (λ c found. condition_is_exit (spelled columns) c found)
word_objects Open card at past builder columns whole sound =
    exit_objects (item_on card (word at past columns)) card (length builder.tests) (length builder.operations)
    builder Closed (exit_from (spelled columns)) refl refl whole.tests whole.operations
word_objects Tested card at past builder columns whole sound =
    let parts =
    and_parts (ltb 0 (length builder.tests))
    (may_have builder.condition (length builder.tests)) sound in
    rest_objects card at past builder columns (after_then (spelled columns)) refl whole.tests parts.1
word_objects (Worded w) card at past builder columns whole sound =
    let i = item_on card (word at past columns) in
    let n = length builder.tests in
    joined_objects card n (following_then (i ∷ []))
    ∙ ap (λ b. objection_of card (joined_view b n (following_then (i ∷ []))))
    (sym (worded_none w builder.condition n sound))
    ∙ ap (objection_of card) (sym (no_more_tests i w n [] refl))
word_objects Closed card at past builder columns whole sound = refl

-- a parenthesis without its partner has no place anywhere
unclosed_objects : (phase : Phase) (card at n m : ℕ) (c : Cond) →
    Some (form card) ≡ objection_of card (view_from phase c n m (item_on card (unclosed at) ∷ []))
unclosed_objects New card at n m c = refl
unclosed_objects (Worded w) card at n m c = refl
unclosed_objects Tested card at n m c = refl
unclosed_objects Open card at n m c = refl
unclosed_objects Closed card at n m c = refl

unopened_objects : (phase : Phase) (card at n m : ℕ) (c : Cond) (columns : List ℕ) →
    Some (form card)
    ≡ objection_of card (view_from phase c n m (item_on card (unopened at columns) ∷ []))
unopened_objects New card at n m c columns = refl
unopened_objects (Worded w) card at n m c columns = refl
unopened_objects Tested card at n m c columns = refl
unopened_objects Open card at n m c columns = refl
unopened_objects Closed card at n m c columns = refl

-- an item objects what the view of the builder and the item says
pub item_objects : (card : ℕ) (builder : StatementBuilder) (i : Item) → IsSound builder →
    objection_met (with_item card builder i) ≡ objection_of card (view builder (item_on card i ∷ []))
item_objects card builder (group offset columns) sound =
    group_objects builder.phase card offset builder columns sound sound.condition sound.fresh
item_objects card builder (word at past columns) sound =
    word_objects builder.phase card at past builder columns sound sound.condition
item_objects card builder (unclosed at) sound =
    unclosed_objects builder.phase card at (length builder.tests) (length builder.operations)
    builder.condition
item_objects card builder (unopened at columns) sound =
    unopened_objects builder.phase card at (length builder.tests) (length builder.operations)
    builder.condition columns

-- items are whole exactly if their builder is
whole_in : (phase : Phase) (c : Cond) (n m : ℕ) →
    (view_from phase c n m []).whole ≡ is_whole_in phase
whole_in New c n m = refl
whole_in (Worded w) c n m = refl
whole_in Tested c n m = refl
whole_in Open c n m = refl
whole_in Closed c n m = refl

pub whole_seen : (builder : StatementBuilder) → (view builder []).whole ≡ is_whole builder
whole_seen builder =
    whole_in builder.phase builder.condition (length builder.tests) (length builder.operations)
