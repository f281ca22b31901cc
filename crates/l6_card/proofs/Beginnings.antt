-- Items are a prefix of a statement exactly if they begin a whole statement.
use Rattle.std.proofs.Common.{◌≡◌, ℕ, ◌+◌, ◌≤◌, ◌<◌, List, [], ◌∷◌, ◌++◌, Bool, true, false, cond, leb, Option, Some, None, refl, sym, ap, ◌∙◌, arith, append_assoc, append-nil, codes}
use Rattle.std.specs.Prelude.{◌||◌}
use Rattle.std.specs.List.{list_all}
use Rattle.std.specs.Option.{is_some, option_map}
use Rattle.std.proofs.lemmas.Bool.{and_parts, and_from, leb-true, le-leb, lt-ltb, eqb-true}
use Rattle.l6_prog.specs.Numerals.{most_tests, most_operations}
use Rattle.l6_prog.specs.Program.{may_have}
use Rattle.l6_prog.specs.declared.condition.Cond.{Cond}
use Rattle.l6_prog.specs.declared.condition.Cond.TheVariants.{Always, If, Not, IfAll, IfAny, IfNone, IfNotAll}
use Rattle.l6_group.specs.Character.{spelled}
use Rattle.l6_card.specs.Items.{Item, group, word, unclosed, unopened, PlacedItem, item_on}
use Rattle.l6_card.specs.Form.{condition_in, then_in, is_operation, is_test, is_exit, are_operations_and_exit, word_on, following_then, needs, has_its_tests, count_tests, count_operations, body_of, tests_among, are_whole, are_condition_and_tests, are_prefix, are_within_limits}
use Rattle.l6_card.proofs.Spellings.{condition_is_exit}
use Rattle.l6_card.proofs.Forms.{View, view_of, joined_view, tested_view, unconditional, new_condition, one_more_test, no_more_tests, then_leads}

-- operations and an exit begin so
operations_begin : (items more : List PlacedItem) →
    are_operations_and_exit (items ++ more) ≡ true → are_operations_and_exit items ≡ true
operations_begin [] more are = refl
operations_begin (i ∷ []) [] are = are
operations_begin (i ∷ []) (j ∷ more) are =
    let parts = and_parts (is_operation i) (are_operations_and_exit (j ∷ more)) are in
    ap (λ b. b || is_exit i) parts.0
operations_begin (i ∷ j ∷ items) more are =
    let parts = and_parts (is_operation i) (are_operations_and_exit (j ∷ items ++ more)) are in
    and_from (is_operation i) (are_operations_and_exit (j ∷ items)) parts.0
    (operations_begin (j ∷ items) more parts.1)

counted_on : (holds : Bool) (n m : ℕ) → n ≤ m → cond holds (n + 1) 0 ≤ cond holds (m + 1) 0
counted_on true n m less = omega arith
counted_on false n m less = omega arith

kept_on : (holds : Bool) (n m : ℕ) → n ≤ m → cond holds n 0 ≤ cond holds m 0
kept_on true n m less = less
kept_on false n m less = omega arith

operations_counted : (items more : List PlacedItem) →
    count_operations items ≤ count_operations (items ++ more)
operations_counted [] more = omega arith
operations_counted (i ∷ items) more =
    counted_on (is_operation i) (count_operations items) (count_operations (items ++ more))
    (operations_counted items more)

tests_counted : (items more : List PlacedItem) → count_tests items ≤ count_tests (items ++ more)
tests_counted [] more = omega arith
tests_counted (i ∷ items) more =
    counted_on (is_test i) (count_tests items) (count_tests (items ++ more))
    (tests_counted items more)

-- items that begin a prefix are one, and have no more operations
record Begins (front all : View) : Type 0 where
  prefix : front.prefix ≡ true
  operations : front.operations ≤ all.operations

-- a condition may have fewer tests, if it has one
fewer_tests : (c : Cond) (n m : ℕ) → may_have c m ≡ true → 0 < n → n ≤ m → may_have c n ≡ true
fewer_tests Always n m fits some less =
    let none = eqb-true m 0 fits in
    absurd (omega arith)
fewer_tests If n m fits some less =
    let one = eqb-true m 1 fits in
    let same : n ≡ 1 = omega arith in
    ap (may_have If) same
fewer_tests Not n m fits some less =
    let one = eqb-true m 1 fits in
    let same : n ≡ 1 = omega arith in
    ap (may_have Not) same
fewer_tests IfAll n m fits some less = lt-ltb 0 n some
fewer_tests IfAny n m fits some less = lt-ltb 0 n some
fewer_tests IfNone n m fits some less = lt-ltb 0 n some
fewer_tests IfNotAll n m fits some less = lt-ltb 0 n some

-- what is whole after a condition has its tests
joined_fits : (fits : Bool) (n : ℕ) (following : Option (List PlacedItem)) →
    (joined_view fits n following).whole ≡ true → fits ≡ true
joined_fits true n following whole = refl
joined_fits false n None whole = absurd (cc)
joined_fits false n (Some following) whole = absurd (cc)

tested_fits_in : (i : PlacedItem) (items : List PlacedItem) (c : Cond) (n : ℕ) (holds : Bool) →
    is_test i ≡ holds →
    ((tested_view c (n + 1) items).whole ≡ true → (m : ℕ) × (n + 1 ≤ m) × (may_have c m ≡ true)) →
    (tested_view c n (i ∷ items)).whole ≡ true → (m : ℕ) × (n ≤ m) × (may_have c m ≡ true)
tested_fits_in i items c n true is_one later whole =
    let seen = one_more_test i c n items is_one in
    let found = later (ap (λ (v : View). v.whole) (sym seen) ∙ whole) in
    (found.0, omega (arith, found.1), found.2)
tested_fits_in i items c n false is_no later whole =
    let seen = no_more_tests i c n items is_no in (
      n,
      omega arith,
      joined_fits (may_have c n) n (following_then (i ∷ items))
          (ap (λ (v : View). v.whole) (sym seen) ∙ whole),
    )

tested_fits : (items : List PlacedItem) (c : Cond) (n : ℕ) →
    (tested_view c n items).whole ≡ true → (m : ℕ) × (n ≤ m) × (may_have c m ≡ true)
tested_fits [] c n whole = absurd (cc)
tested_fits (i ∷ items) c n whole =
    tested_fits_in i items c n (is_test i) refl (tested_fits items c (n + 1)) whole

-- what begins after THEN
then_begins : (i : PlacedItem) (items more : List PlacedItem) (fits : Bool) (n : ℕ)
    (found : Option (List ℕ)) →
    let following : List PlacedItem → Option (List PlacedItem) =
    λ rest. option_map (λ characters. word_on i.card characters ++ rest) found in
    (joined_view fits n (following (items ++ more))).whole ≡ true →
    Begins (joined_view fits n (following items)) (joined_view fits n (following (items ++ more)))
then_begins i items more fits n None whole = absurd (cc)
then_begins i items more false n (Some characters) whole = absurd (cc)
then_begins i items more true n (Some characters) whole =
    let front = word_on i.card characters ++ items in
    let same : word_on i.card characters ++ (items ++ more) ≡ front ++ more =
    sym (append_assoc (word_on i.card characters) items more) in
    let counted = operations_counted front more in
    let counts = ap count_operations same in
    record {
      prefix = operations_begin front more (ap are_operations_and_exit (sym same) ∙ whole);
      operations = omega (arith, counted, counts);
    }

-- what begins after a condition and its tests
no_test_begins : (i : PlacedItem) (items more : List PlacedItem) (c : Cond) (n : ℕ) →
    is_test i ≡ false → (tested_view c n (i ∷ items ++ more)).whole ≡ true →
    Begins (tested_view c n (i ∷ items)) (tested_view c n (i ∷ items ++ more))
no_test_begins i items more c n is_no whole =
    let seen = no_more_tests i c n items is_no in
    let all = no_more_tests i c n (items ++ more) is_no in
    let begins =
    then_begins i items more (may_have c n) n (then_in i.what)
    (ap (λ (v : View). v.whole) (sym all) ∙ whole) in
    record {
      prefix = ap (λ (v : View). v.prefix) seen ∙ begins.prefix;
      operations = omega (
        arith,
        begins.operations,
        ap (λ (v : View). v.operations) seen,
        ap (λ (v : View). v.operations) all,
      );
    }

test_begins : (i : PlacedItem) (items more : List PlacedItem) (c : Cond) (n : ℕ) →
    is_test i ≡ true →
    Begins (tested_view c (n + 1) items) (tested_view c (n + 1) (items ++ more)) →
    Begins (tested_view c n (i ∷ items)) (tested_view c n (i ∷ items ++ more))
test_begins i items more c n is_one begins =
    let seen = one_more_test i c n items is_one in
    let all = one_more_test i c n (items ++ more) is_one in
    record {
      prefix = ap (λ (v : View). v.prefix) seen ∙ begins.prefix;
      operations = omega (
        arith,
        begins.operations,
        ap (λ (v : View). v.operations) seen,
        ap (λ (v : View). v.operations) all,
      );
    }

either_begins : (i : PlacedItem) (items more : List PlacedItem) (c : Cond) (n : ℕ) (holds : Bool) →
    is_test i ≡ holds →
    ((tested_view c (n + 1) (items ++ more)).whole ≡ true →
    Begins (tested_view c (n + 1) items) (tested_view c (n + 1) (items ++ more))) →
    (tested_view c n (i ∷ items ++ more)).whole ≡ true →
    Begins (tested_view c n (i ∷ items)) (tested_view c n (i ∷ items ++ more))
either_begins i items more c n true is_one later whole =
    let all = one_more_test i c n (items ++ more) is_one in
    test_begins i items more c n is_one (later (ap (λ (v : View). v.whole) (sym all) ∙ whole))
either_begins i items more c n false is_no later whole =
    no_test_begins i items more c n is_no whole

tests_begin : (items more : List PlacedItem) (c : Cond) (n : ℕ) → 0 < n →
    (tested_view c n (items ++ more)).whole ≡ true →
    Begins (tested_view c n items) (tested_view c n (items ++ more))
tests_begin [] more c n some whole =
    let fits = tested_fits more c n whole in
    let count : n + 0 ≡ n = omega arith in
    record {
      prefix = ap (may_have c) count ∙ fewer_tests c n fits.0 fits.2 some fits.1;
      operations = omega arith;
    }
tests_begin (i ∷ items) more c n some whole =
    either_begins i items more c n (is_test i) refl
    (tests_begin items more c (n + 1) (omega arith)) whole

-- a condition word is an exit and no operation
record IsWord (i : PlacedItem) : Type 0 where
  no_operation : is_operation i ≡ false
  exit : is_exit i ≡ true

is_word : (what : Item) (card : ℕ) (c : Cond) → condition_in what ≡ Some c →
    IsWord (item_on card what)
is_word (word at past columns) card c found =
    record { no_operation = refl; exit = condition_is_exit (spelled columns) c found }
is_word (group offset columns) card c found = absurd (cc)
is_word (unclosed at) card c found = absurd (cc)
is_word (unopened at columns) card c found = absurd (cc)

worded_begins : (i : PlacedItem) (items more : List PlacedItem) (c : Cond) →
    condition_in i.what ≡ Some c → are_whole (i ∷ items ++ more) ≡ true →
    Begins (view_of (i ∷ items)) (view_of (i ∷ items ++ more))
worded_begins i [] more c found whole =
    let w = is_word i.what i.card c found in
    let seen = new_condition i c [] found w.no_operation w.exit in
    record {
      prefix = ap (λ (v : View). v.prefix) seen;
      operations = omega (arith, ap (λ (v : View). v.operations) seen);
    }
worded_begins i (j ∷ items) more c found whole =
    let w = is_word i.what i.card c found in
    let seen = new_condition i c (j ∷ items) found w.no_operation w.exit in
    let all = new_condition i c (j ∷ items ++ more) found w.no_operation w.exit in
    let begins =
    either_begins j items more c 0 (is_test j) refl
    (tests_begin items more c (0 + 1) (omega arith))
    (ap (λ (v : View). v.whole) (sym all) ∙ whole) in
    record {
      prefix = ap (λ (v : View). v.prefix) seen ∙ begins.prefix;
      operations = omega (
        arith,
        begins.operations,
        ap (λ (v : View). v.operations) seen,
        ap (λ (v : View). v.operations) all,
      );
    }

first_begins : (i : PlacedItem) (items more : List PlacedItem) (found : Option Cond) →
    condition_in i.what ≡ found → are_whole (i ∷ items ++ more) ≡ true →
    Begins (view_of (i ∷ items)) (view_of (i ∷ items ++ more))
first_begins i items more (Some c) found whole = worded_begins i items more c found whole
first_begins i items more None found whole =
    let seen = unconditional i items found in
    let all = unconditional i (items ++ more) found in
    let counted = operations_counted (i ∷ items) more in
    record {
      prefix =
          ap (λ (v : View). v.prefix) seen
          ∙ operations_begin (i ∷ items) more (ap (λ (v : View). v.whole) (sym all) ∙ whole);
      operations = omega (
        arith,
        counted,
        ap (λ (v : View). v.operations) seen,
        ap (λ (v : View). v.operations) all,
      );
    }

begins : (items more : List PlacedItem) → are_whole (items ++ more) ≡ true →
    Begins (view_of items) (view_of (items ++ more))
begins [] more whole = record { prefix = refl; operations = omega arith }
begins (i ∷ items) more whole = first_begins i items more (condition_in i.what) refl whole

-- items that begin a whole statement are a prefix
pub whole_begins : (items more : List PlacedItem) → are_whole (items ++ more) ≡ true →
    are_prefix items ≡ true
whole_begins items more whole = (begins items more whole).prefix

tests_among_more : (items more : List PlacedItem) → tests_among items ≤ tests_among (items ++ more)
tests_among_more [] more = omega arith
tests_among_more (i ∷ items) more =
    kept_on (is_some (condition_in i.what)) (count_tests items) (count_tests (items ++ more))
    (tests_counted items more)

-- items that begin a whole statement within the limits are within them
pub few_begin : (items more : List PlacedItem) → are_whole (items ++ more) ≡ true →
    are_within_limits (items ++ more) ≡ true → are_within_limits items ≡ true
few_begin items more whole few =
    let n = tests_among items in
    let m = count_operations (body_of items) in
    let n' = tests_among (items ++ more) in
    let m' = count_operations (body_of (items ++ more)) in
    let parts = and_parts (leb n' most_tests) (leb m' most_operations) few in
    let tests = leb-true n' most_tests parts.0 in
    let operations = leb-true m' most_operations parts.1 in
    let fewer = tests_among_more items more in
    let less = (begins items more whole).operations in
    and_from (leb n most_tests) (leb m most_operations)
    (le-leb n most_tests (omega arith)) (le-leb m most_operations (omega arith))

-- tests in a row leave what follows them
tests_run : (items rest : List PlacedItem) (c : Cond) (n : ℕ) → list_all is_test items ≡ true →
    tested_view c n (items ++ rest) ≡ tested_view c (n + count_tests items) rest
tests_run [] rest c n all =
    let count : n ≡ n + 0 = omega arith in
    ap (λ k. tested_view c k rest) count
tests_run (i ∷ items) rest c n all =
    let parts = and_parts (is_test i) (list_all is_test items) all in
    let counted : count_tests (i ∷ items) ≡ count_tests items + 1 =
    ap (λ b. cond b (count_tests items + 1) 0) parts.0 in
    let count : n + 1 + count_tests items ≡ n + count_tests (i ∷ items) = omega (arith, counted) in
    one_more_test i c n (items ++ rest) parts.0
    ∙ tests_run items rest c (n + 1) parts.1
    ∙ ap (λ k. tested_view c k rest) count

-- items with more after them that make them whole
abbrev pub Grows : List PlacedItem → Type 0
Grows items = (more : List PlacedItem) × (are_whole (items ++ more) ≡ true)

abbrev then_item : PlacedItem
then_item = item_on 0 (word 0 0 (codes "THEN"))

condition_grows : (i : PlacedItem) (items : List PlacedItem) (c : Cond) →
    condition_in i.what ≡ Some c → may_have c (count_tests items) ≡ true →
    list_all is_test items ≡ true → Grows (i ∷ items)
condition_grows i [] c found fits all =
    let w = is_word i.what i.card c found in
    let seen = new_condition i c [] found w.no_operation w.exit in
    ([], ap (λ (v : View). v.whole) seen)
condition_grows i (j ∷ items) c found fits all =
    let w = is_word i.what i.card c found in
    let tests = j ∷ items in
    let n = 0 + count_tests tests in
    let count : n ≡ count_tests tests = omega arith in
    let seen = new_condition i c (tests ++ then_item ∷ []) found w.no_operation w.exit
    ∙ tests_run tests (then_item ∷ []) c 0 all
    ∙ then_leads then_item c n [] [] refl refl (ap (may_have c) count ∙ fits) in
    (then_item ∷ [], ap (λ (v : View). v.whole) seen)

wanted_grows : (i : PlacedItem) (items : List PlacedItem) (found : Option Cond) →
    condition_in i.what ≡ found → needs found (count_tests items) ≡ true →
    list_all is_test items ≡ true → Grows (i ∷ items)
wanted_grows i items None found fits all = absurd (cc)
wanted_grows i items (Some c) found fits all = condition_grows i items c found fits all

tests_grow : (items : List PlacedItem) → are_condition_and_tests items ≡ true → Grows items
tests_grow [] are = absurd (cc)
tests_grow (i ∷ items) are =
    let parts = and_parts (has_its_tests i items) (list_all is_test items) are in
    wanted_grows i items (condition_in i.what) refl parts.0 parts.1

prefix_grows : (items : List PlacedItem) (whole unfinished : Bool) →
    are_whole items ≡ whole → are_condition_and_tests items ≡ unfinished →
    (whole || unfinished) ≡ true → Grows items
prefix_grows items true unfinished is_so are is_prefix' =
    ([], ap are_whole (append-nil items) ∙ is_so)
prefix_grows items false true is_so are is_prefix' = tests_grow items are
prefix_grows items false false is_so are is_prefix' = absurd (cc)

-- items that are a prefix begin a whole statement
pub hold_to_grow : (items : List PlacedItem) → are_prefix items ≡ true → Grows items
hold_to_grow items is_prefix' =
    prefix_grows items (are_whole items) (are_condition_and_tests items) refl refl is_prefix'
