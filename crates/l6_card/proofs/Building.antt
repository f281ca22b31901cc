-- Items that say a statement make its builder, which is whole.
use Rattle.std.proofs.Common.{◌≡◌, inl, inr, ℕ, ◌+◌, ◌≤◌, ◌<◌, List, [], ◌∷◌, ◌++◌, map, length, true, leb, Option, Some, None, Ok, refl, sym, ap, ◌∙◌, subst, arith, length-append, append_assoc, append-nil}
use Rattle.std.specs.Prelude.{◌&&◌}
use Rattle.std.specs.Option.{is_some, option_map}
use Rattle.std.proofs.lemmas.Bool.{lt-ltb, leb-true, eqb-true, and_parts}
use Rattle.l6_prog.specs.Numerals.{most_tests, most_operations}
use Rattle.l6_prog.specs.Program.{may_have}
use Rattle.l6_prog.specs.declared.condition.Cond.{Cond}
use Rattle.l6_prog.specs.declared.condition.Cond.TheVariants.{Always, If, Not, IfAll, IfAny, IfNone, IfNotAll}
use Rattle.l6_prog.specs.declared.condition.Test.{Test}
use Rattle.l6_prog.specs.declared.exit.Exit.{Exit}
use Rattle.l6_prog.specs.declared.exit.Exit.TheVariants.{Next}
use Rattle.l6_group.specs.declared.label.Label.{Label}
use Rattle.l6_group.specs.Character.{spelled}
use Rattle.l6_group.specs.Test.{test_of}
use Rattle.l6_group.specs.Word.{conditions, condition_from, exit_from, after_then}
use Rattle.l6_card.specs.declared.cards.Placed.{Placed}
use Rattle.l6_card.specs.declared.cards.PlacedLabel.{PlacedLabel}
use Rattle.l6_card.specs.declared.span.Span.{Span}
use Rattle.l6_card.specs.Spans.{group_span}
use Rattle.l6_card.specs.Items.{Item, group, word, unclosed, unopened, PlacedItem, item_on}
use Rattle.l6_card.specs.Statement.{DeckStatementParts, placed_exit, is_fit}
use Rattle.l6_card.specs.Form.{condition_in, following_then, word_on}
use Rattle.l6_card.specs.Denotes.{test_on, ItemsDenote}
use Rattle.l6_card.specs.inner.StatementBuilder.{StatementBuilder, New, Worded, Tested, Open, Closed, new_builder, phase_of, is_whole, statement_from, with_test, with_further_test, with_placed, with_rest, with_item, builder_then, builder_of}
use Rattle.l6_card.proofs.Spellings.{following_then_spelled, condition_is_exit}
use Rattle.l6_card.specs.ReadsAs.{Denotes}
use Rattle.l6_card.specs.Numerals.{most_continuations}
use Rattle.l6_card.proofs.Fitness.{found_needs_test, items_sound, new_sound, statement_fit}
use Rattle.l6_card.proofs.Objections.{needs_some}
use Rattle.l6_card.proofs.OperationsDenoted.{Tests, builder_at}
use Rattle.l6_card.proofs.Denotations.{denote_when_made}
use Rattle.l6_card.proofs.OperationsTaken.{Ended, also_made, denoted_taken}

-- a test is taken where there is room for it
test_made : (card : ℕ) (span : Span) (builder : StatementBuilder) (c : Cond) (found : Option Test)
    (one : Placed Test) →
    length builder.tests < most_tests →
    option_map (λ t. record { reading = t; card = card; span = span }) found ≡ Some one →
    with_test card span builder c found
    ≡ Ok (builder_at Tested c (builder.tests ++ one ∷ []) builder.operations Next)
test_made card span builder c None one room is_one = absurd (cc)
test_made card span builder c (Some test) one room is_one =
    let same : record { reading = test; card = card; span = span } ≡ one = cc in
    rw (lt-ltb (length builder.tests) most_tests room)
    (ap (λ (t : Placed Test). Ok
    (builder_at Tested c (builder.tests ++ t ∷ []) builder.operations Next))
    same)

-- a condition that may have more than one test
may_go_on : (card : ℕ) (span : Span) (builder : StatementBuilder) (c : Cond) (found : Option Test)
    (n : ℕ) →
    1 < n → may_have c n ≡ true →
    with_further_test card span builder c found ≡ with_test card span builder c found
may_go_on card span builder Always found n many fits =
    let none = eqb-true n 0 fits in
    absurd (omega arith)
may_go_on card span builder If found n many fits =
    let one = eqb-true n 1 fits in
    absurd (omega arith)
may_go_on card span builder Not found n many fits =
    let one = eqb-true n 1 fits in
    absurd (omega arith)
may_go_on card span builder IfAll found n many fits = refl
may_go_on card span builder IfAny found n many fits = refl
may_go_on card span builder IfNone found n many fits = refl
may_go_on card span builder IfNotAll found n many fits = refl

further_taken : (what : Item) (card : ℕ) (c : Cond) (before : Tests) (one : Placed Test) (n : ℕ) →
    1 < n → may_have c n ≡ true → length before < most_tests →
    test_on (item_on card what) ≡ Some one →
    with_item card (builder_at Tested c before [] Next) what
    ≡ Ok (builder_at Tested c (before ++ one ∷ []) [] Next)
further_taken (group offset columns) card c before one n many fits room is_one =
    may_go_on card (group_span offset columns) (builder_at Tested c before [] Next) c
    (test_of columns) n many fits
    ∙ test_made card (group_span offset columns) (builder_at Tested c before [] Next) c
    (test_of columns) one room is_one
further_taken (word at past columns) card c before one n many fits room is_one = absurd (cc)
further_taken (unclosed at) card c before one n many fits room is_one = absurd (cc)
further_taken (unopened at columns) card c before one n many fits room is_one = absurd (cc)

-- the groups of further tests are taken
tests_taken : (groups others : List PlacedItem) (more : Tests) (c : Cond) (before : Tests)
    (n : ℕ) →
    map test_on groups ≡ map Some more → 0 < length before → length before + length more ≡ n →
    may_have c n ≡ true → n ≤ most_tests →
    builder_of (builder_at Tested c before [] Next) (groups ++ others)
    ≡ builder_of (builder_at Tested c (before ++ more) [] Next) others
tests_taken [] others [] c before n are some count fits room =
    ap (λ (ts : Tests). builder_of (builder_at Tested c ts [] Next) others) (sym (append-nil before))
tests_taken [] others (one ∷ more) c before n are some count fits room = absurd (cc)
tests_taken (i ∷ groups) others [] c before n are some count fits room = absurd (cc)
tests_taken (i ∷ groups) others (one ∷ more) c before n are some count fits room =
    let head : test_on i ≡ Some one = cc (are) in
    let tail : map test_on groups ≡ map Some more = cc (are) in
    let taken =
    further_taken i.what i.card c before one n (omega arith) fits (omega arith) head in
    let longer = length-append before (one ∷ []) in
    ap (λ r. builder_then r (λ next. builder_of next (groups ++ others))) taken
    ∙ tests_taken groups others more c (before ++ one ∷ []) n tail (omega (arith, longer))
    (omega (arith, longer)) fits room
    ∙ ap (λ (ts : Tests). builder_of (builder_at Tested c ts [] Next) others)
    (append_assoc before (one ∷ []) more)

-- an exit makes the same of a condition with its tests and of what is open after THEN
after_rest : (card : ℕ) (items : List PlacedItem) (c : Cond) (tests : Tests)
    (found : Option (Exit Label)) →
    builder_then (with_placed card (builder_at Tested c tests [] Next) Closed found)
    (λ next. builder_of next items)
    ≡ builder_then (with_placed card (builder_at Open c tests [] Next) Closed found)
    (λ next. builder_of next items)
after_rest card items c tests None = refl
after_rest card items c tests (Some given) = refl

-- THEN, and what is in the same word
rest_taken : (columns : List ℕ) (card : ℕ) (items following : List PlacedItem) (c : Cond)
    (tests : Tests) (found : Option (List ℕ)) →
    after_then (spelled columns) ≡ found →
    option_map (λ characters. word_on card characters ++ items) found ≡ Some following →
    builder_then (with_rest card (builder_at Tested c tests [] Next) found)
    (λ next. builder_of next items)
    ≡ builder_of (builder_at Open c tests [] Next) following
rest_taken columns card items following c tests None is_found leads = absurd (cc)
rest_taken columns card items following c tests (Some []) is_found leads =
    let same : items ≡ following = cc in
    ap (builder_of (builder_at Open c tests [] Next)) same
rest_taken columns card items following c tests (Some (x ∷ xs)) is_found leads =
    let again = following_then_spelled columns (x ∷ xs) is_found in
    let same : item_on card (word 0 0 (x ∷ xs)) ∷ items ≡ following = cc in
    let made =
    λ (found : Option (Exit Label)). builder_then
    (with_placed card (builder_at Open c tests [] Next) Closed found)
    (λ next. builder_of next items) in
    after_rest card items c tests (exit_from (x ∷ xs))
    ∙ ap (λ cs. made (exit_from cs)) (sym again)
    ∙ ap (builder_of (builder_at Open c tests [] Next)) same

then_taken : (what : Item) (card : ℕ) (items following : List PlacedItem) (c : Cond)
    (tests : Tests) →
    following_then (item_on card what ∷ items) ≡ Some following →
    builder_of (builder_at Tested c tests [] Next) (item_on card what ∷ items)
    ≡ builder_of (builder_at Open c tests [] Next) following
then_taken (word at past columns) card items following c tests leads =
    rest_taken columns card items following c tests (after_then (spelled columns)) refl leads
then_taken (group offset columns) card items following c tests leads = absurd (cc)
then_taken (unclosed at) card items following c tests leads = absurd (cc)
then_taken (unopened at columns) card items following c tests leads = absurd (cc)

others_taken : (others following : List PlacedItem) (c : Cond) (tests : Tests) →
    following_then others ≡ Some following →
    builder_of (builder_at Tested c tests [] Next) others
    ≡ builder_of (builder_at Open c tests [] Next) following
others_taken [] following c tests leads = absurd (cc)
others_taken (i ∷ items) following c tests leads =
    then_taken i.what i.card items following c tests leads

-- the first test of a condition word
first_test_taken : (what : Item) (card : ℕ) (w : Cond) (exit : Exit PlacedLabel)
    (one : Placed Test) →
    test_on (item_on card what) ≡ Some one →
    with_item card (builder_at (Worded w) Always [] [] exit) what
    ≡ Ok (builder_at Tested w (one ∷ []) [] Next)
first_test_taken (group offset columns) card w exit one is_one =
    test_made card (group_span offset columns) (builder_at (Worded w) Always [] [] exit) w
    (test_of columns) one
    (omega arith) is_one
first_test_taken (word at past columns) card w exit one is_one = absurd (cc)
first_test_taken (unclosed at) card w exit one is_one = absurd (cc)
first_test_taken (unopened at columns) card w exit one is_one = absurd (cc)

-- a condition word is taken as an exit first
record WordTaken (i : PlacedItem) (c : Cond) : Type 0 where
  exit : Exit PlacedLabel
  made : with_item i.card new_builder i.what ≡ Ok (builder_at (Worded c) Always [] [] exit)
  needs : may_have c 1 ≡ true

word_made : (card : ℕ) (c : Cond) (found : Option Cond) (given : Option (Exit Label)) →
    found ≡ Some c → is_some given ≡ true →
    (exit : Exit PlacedLabel)
    × (with_placed card new_builder (phase_of found) given
    ≡ Ok (builder_at (Worded c) Always [] [] exit))
word_made card c found None is_found is_one = absurd (cc)
word_made card c found (Some given) is_found is_one = (
  placed_exit card given,
  ap (λ (o : Option Cond). Ok (builder_at (phase_of o) Always [] [] (placed_exit card given)))
      is_found,
)

word_taken : (what : Item) (card : ℕ) (c : Cond) →
    condition_in what ≡ Some c → WordTaken (item_on card what) c
word_taken (word at past columns) card c is_found =
    let made = word_made card c (condition_from (spelled columns)) (exit_from (spelled columns))
    is_found (condition_is_exit (spelled columns) c is_found) in
    record {
      exit = made.0;
      made = made.1;
      needs = found_needs_test conditions (spelled columns) c refl is_found;
    }
word_taken (group offset columns) card c is_found = absurd (cc)
word_taken (unclosed at) card c is_found = absurd (cc)
word_taken (unopened at columns) card c is_found = absurd (cc)

-- a condition with its tests is taken
condition_taken : (i : PlacedItem) (groups others following : List PlacedItem) (c : Cond)
    (tests : Tests) →
    condition_in i.what ≡ Some c → map test_on groups ≡ map Some tests →
    following_then others ≡ Some following →
    may_have c (length tests) ≡ true → length tests ≤ most_tests →
    builder_of new_builder (i ∷ groups ++ others)
    ≡ builder_of (builder_at Open c tests [] Next) following
condition_taken i groups others following c [] is_word are leads fits room =
    let taken = word_taken i.what i.card c is_word in
    let none = needs_some c taken.needs in
    absurd (cc)
condition_taken i [] others following c (one ∷ more) is_word are leads fits room = absurd (cc)
condition_taken i (j ∷ groups) others following c (one ∷ more) is_word are leads fits room =
    let taken = word_taken i.what i.card c is_word in
    let head : test_on j ≡ Some one = cc (are) in
    let tail : map test_on groups ≡ map Some more = cc (are) in
    let first = first_test_taken j.what j.card c taken.exit one head in
    ap (λ r. builder_then r (λ next. builder_of next (j ∷ groups ++ others))) taken.made
    ∙ ap (λ r. builder_then r (λ next. builder_of next (groups ++ others))) first
    ∙ tests_taken groups others more c (one ∷ []) (length (one ∷ more)) tail (omega arith)
    (omega arith) fits room
    ∙ others_taken others following c (one ∷ more) leads

-- the limits and the tests of a statement that is fit
record Fits (statement : DeckStatementParts) : Type 0 where
  tests : length statement.tests ≤ most_tests
  operations : length statement.operations ≤ most_operations
  condition : may_have statement.condition (length statement.tests) ≡ true

fits_of : (statement : DeckStatementParts) → is_fit statement ≡ true → Fits statement
fits_of statement fit =
    let n = length statement.tests in
    let m = length statement.operations in
    let parts = and_parts (leb n most_tests && leb m most_operations)
    (may_have statement.condition n) fit in
    let limits = and_parts (leb n most_tests) (leb m most_operations) parts.0 in
    record {
      tests = leb-true n most_tests limits.0;
      operations = leb-true m most_operations limits.1;
      condition = parts.1;
    }

pub either_taken : (items : List PlacedItem) (statement : DeckStatementParts) →
    is_fit statement ≡ true → ItemsDenote items statement →
    Ended new_builder items statement.condition statement.tests statement.operations statement.exit
either_taken items statement fit (inl denote) =
    let fits = fits_of statement fit in
    let made = denoted_taken New items Always [] statement refl fits.operations denote.denote in
    let same : builder_at made.phase Always [] statement.operations statement.exit
    ≡ builder_at made.phase statement.condition statement.tests statement.operations statement.exit =
    cc (denote.condition, denote.tests) in
    record {
      phase = made.phase;
      whole = made.whole;
      made = made.made ∙ ap Some same;
    }
either_taken items statement fit (inr denote) =
    let fits = fits_of statement fit in
    also_made new_builder
    (builder_at Open statement.condition statement.tests [] Next) items denote.following
    statement.condition statement.tests statement.operations statement.exit
    (ap (builder_of new_builder) denote.in_order
    ∙ condition_taken denote.first denote.groups denote.others denote.following statement.condition
    statement.tests denote.condition denote.tests denote.leads fits.condition fits.tests)
    (denoted_taken Open denote.following statement.condition statement.tests statement refl fits.operations
    denote.denote)

-- a statement with this label and these items, by the builder that they make
pub record Drafts (label : Option PlacedLabel) (items : List PlacedItem) (further : ℕ)
    (statement : DeckStatementParts) : Type 0 where
  pub builder : StatementBuilder
  pub items_make : builder_of new_builder items ≡ Some builder
  pub whole : is_whole builder ≡ true
  pub statement_is : statement ≡ statement_from label builder
  pub few : further ≤ most_continuations

pub builders_of : (label : Option PlacedLabel) (items : List PlacedItem) (further : ℕ)
    (statement : DeckStatementParts) →
    Denotes label items further statement → Drafts label items further statement
builders_of label items further statement denotes =
    let made = either_taken items statement denotes.fit denotes.denote in
    let builder = builder_at made.phase statement.condition statement.tests statement.operations
    statement.exit in
    record {
      builder = builder;
      items_make = made.made;
      whole = made.whole;
      statement_is = ap (λ (l : Option PlacedLabel). statement_from l builder) denotes.labelled;
      few = denotes.few;
    }

pub denotes_of : (label : Option PlacedLabel) (items : List PlacedItem) (further : ℕ)
    (statement : DeckStatementParts) →
    Drafts label items further statement → Denotes label items further statement
denotes_of label items further statement builders =
    let sound = items_sound items new_builder builders.builder new_sound builders.items_make in
    let made : DeckStatementParts = statement_from label builders.builder in
    subst (λ (s : DeckStatementParts). Denotes label items further s) (sym builders.statement_is)
    (record {
      labelled = refl;
      denote = denote_when_made items label builders.builder builders.whole builders.items_make;
      fit = statement_fit label builders.builder sound builders.whole;
      few = builders.few;
    })
