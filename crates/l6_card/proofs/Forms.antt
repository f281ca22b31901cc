-- What the forms of items say, of a builder and the items after it.
use Rattle.std.proofs.Common.{◌≡◌, ℕ, ◌+◌, List, [], ◌∷◌, ◌++◌, Bool, true, false, cond, Option, Some, None, refl, ap, ◌∙◌, arith}
use Rattle.std.specs.Prelude.{◌&&◌, ◌||◌}
use Rattle.std.specs.List.{list_all}
use Rattle.std.specs.Option.{option_map, unwrap_or}
use Rattle.l6_prog.specs.Program.{may_have}
use Rattle.l6_prog.specs.declared.condition.Cond.{Cond}
use Rattle.l6_card.specs.Items.{PlacedItem}
use Rattle.l6_card.specs.Form.{condition_in, then_in, is_operation, is_test, is_exit, are_operations_and_exit, word_on, following_then, count_tests, following_tests, body_of, are_whole, are_prefix, tests_among, count_operations}
use Rattle.l6_card.specs.inner.StatementBuilder.{Phase, New, Worded, Tested, Open, Closed}

-- what the forms say of items: whether they are whole, whether they are a prefix, and how many tests and
-- operations are among them
pub record View : Type 0 where
  pub whole : Bool
  pub prefix : Bool
  pub tests : ℕ
  pub operations : ℕ

abbrev pub view_of : List PlacedItem → View
view_of items =
    record {
      whole = are_whole items;
      prefix = are_prefix items;
      tests = tests_among items;
      operations = count_operations (body_of items);
    }

same_view : (w w' s s' : Bool) (t t' o o' : ℕ) → w ≡ w' → s ≡ s' → t ≡ t' → o ≡ o' →
    ◌≡◌ {A = View} (record { whole = w; prefix = s; tests = t; operations = o })
    (record { whole = w'; prefix = s'; tests = t'; operations = o' })
same_view w w' s s' t t' o o' wholes is_prefix tests operations = cc

abbrev pub is_none : List PlacedItem → Bool
is_none [] = true
is_none (i ∷ items) = false

-- after operations
abbrev pub plain_view : ℕ → ℕ → List PlacedItem → View
plain_view n m rest =
    record {
      whole = are_operations_and_exit rest;
      prefix = are_operations_and_exit rest;
      tests = n;
      operations = m + count_operations rest;
    }

-- after an exit
abbrev pub closed_view : ℕ → ℕ → List PlacedItem → View
closed_view n m rest =
    record { whole = is_none rest; prefix = is_none rest; tests = n; operations = m }

-- after a condition and all its tests, which are as many as it may have or not
abbrev pub joined_view : Bool → ℕ → Option (List PlacedItem) → View
joined_view fits n None =
    record { whole = false; prefix = false; tests = n; operations = 0 }
joined_view false n (Some following) =
    record { whole = false; prefix = false; tests = n; operations = 0 }
joined_view true n (Some following) = plain_view n 0 following

abbrev pub following_view : Bool → ℕ → List PlacedItem → View
following_view fits n [] = record { whole = false; prefix = fits; tests = n; operations = 0 }
following_view fits n (i ∷ rest) = joined_view fits n (following_then (i ∷ rest))

-- after a condition and some of its tests
abbrev pub tested_view : Cond → ℕ → List PlacedItem → View
tested_view c n rest =
    following_view (may_have c (n + count_tests rest)) (n + count_tests rest) (following_tests rest)

-- after a word that may be a condition
abbrev pub worded_view : Cond → ℕ → List PlacedItem → View
worded_view c n [] = record { whole = true; prefix = true; tests = n; operations = 0 }
worded_view c n (i ∷ rest) = tested_view c n (i ∷ rest)

-- after items that a builder was made of
abbrev pub view_from : Phase → Cond → ℕ → ℕ → List PlacedItem → View
view_from New c n m rest = view_of rest
view_from (Worded w) c n m rest = worded_view w n rest
view_from Tested c n m rest = tested_view c n rest
view_from Open c n m rest = plain_view n m rest
view_from Closed c n m rest = closed_view n m rest

or_false : (b : Bool) → (b || false) ≡ b
or_false true = refl
or_false false = refl

-- an operation leads to what follows it
operation_leads : (i : PlacedItem) (rest : List PlacedItem) →
    is_operation i ≡ true → are_operations_and_exit (i ∷ rest) ≡ are_operations_and_exit rest
operation_leads i [] is_one = ap (λ b. b || is_exit i) is_one
operation_leads i (j ∷ rest) is_one = ap (λ b. b && are_operations_and_exit (j ∷ rest)) is_one

-- an exit ends the items
exit_ends : (i : PlacedItem) (rest : List PlacedItem) →
    is_operation i ≡ false → is_exit i ≡ true → are_operations_and_exit (i ∷ rest) ≡ is_none rest
exit_ends i [] is_no is_one = rw (is_no, is_one) refl
exit_ends i (j ∷ rest) is_no is_one = ap (λ b. b && are_operations_and_exit (j ∷ rest)) is_no

pub open_operation : (i : PlacedItem) (n m : ℕ) (rest : List PlacedItem) →
    is_operation i ≡ true → plain_view n m (i ∷ rest) ≡ plain_view n (m + 1) rest
open_operation i n m rest is_one =
    let leads = operation_leads i rest is_one in
    let count : count_operations (i ∷ rest) ≡ count_operations rest + 1 =
    ap (λ b. cond b (count_operations rest + 1) 0) is_one in
    same_view _ _ _ _ n n _ _ leads leads refl (omega (arith, count))

pub open_exit : (i : PlacedItem) (n m : ℕ) (rest : List PlacedItem) →
    is_operation i ≡ false → is_exit i ≡ true → plain_view n m (i ∷ rest) ≡ closed_view n m rest
open_exit i n m rest is_no is_one =
    let ends' = exit_ends i rest is_no is_one in
    let count : count_operations (i ∷ rest) ≡ 0 =
    ap (λ b. cond b (count_operations rest + 1) 0) is_no in
    same_view _ _ _ _ n n _ _ ends' ends' refl (omega (arith, count))

-- the first item is no condition
pub unconditional : (i : PlacedItem) (rest : List PlacedItem) →
    condition_in i.what ≡ None → view_of (i ∷ rest) ≡ plain_view 0 0 (i ∷ rest)
unconditional i rest none =
    rw none (same_view _ _ _ _ 0 0 _ _ refl (or_false (are_operations_and_exit (i ∷ rest))) refl
    (omega arith))

all_tests_in : (b : Bool) (items : List PlacedItem) (i : PlacedItem) →
    list_all is_test items ≡ is_none (following_tests items) →
    (b && list_all is_test items) ≡ is_none (cond b (following_tests items) (i ∷ items))
all_tests_in true items i same = same
all_tests_in false items i same = refl

all_tests : (items : List PlacedItem) → list_all is_test items ≡ is_none (following_tests items)
all_tests [] = refl
all_tests (i ∷ items) = all_tests_in (is_test i) items i (all_tests items)

-- a condition word that nothing follows is an exit
alone : (i : PlacedItem) (fits : Bool) →
    is_operation i ≡ false → is_exit i ≡ true →
    let left = unwrap_or (cond fits None None) (i ∷ []) in
    ◌≡◌ {A = View}
    (record {
      whole = are_operations_and_exit left;
      prefix = are_operations_and_exit left || (fits && true);
      tests = 0;
      operations = count_operations left;
    })
    (record { whole = true; prefix = true; tests = 0; operations = 0 })
alone i true is_no is_one = rw (is_no, is_one) refl
alone i false is_no is_one = rw (is_no, is_one) refl

-- a condition word, with what its tests and THEN leave
lifted_then : (i j : PlacedItem) (rest : List PlacedItem) (fits : Bool) (n : ℕ)
    (following : Option (List PlacedItem)) →
    is_operation i ≡ false →
    let left = unwrap_or (cond fits following None) (i ∷ j ∷ rest) in
    ◌≡◌ {A = View}
    (record {
      whole = are_operations_and_exit left;
      prefix = are_operations_and_exit left || (fits && false);
      tests = n;
      operations = count_operations left;
    })
    (joined_view fits n following)
lifted_then i j rest true n None is_no = rw (is_no) refl
lifted_then i j rest false n None is_no = rw (is_no) refl
lifted_then i j rest false n (Some following) is_no = rw (is_no) refl
lifted_then i j rest true n (Some following) is_no =
    same_view _ _ _ _ n n _ _ refl (or_false (are_operations_and_exit following)) refl (omega arith)

lifted : (i j : PlacedItem) (rest : List PlacedItem) (fits : Bool) (n : ℕ)
    (following : List PlacedItem) →
    is_operation i ≡ false →
    let left = unwrap_or (cond fits (following_then following) None) (i ∷ j ∷ rest) in
    ◌≡◌ {A = View}
    (record {
      whole = are_operations_and_exit left;
      prefix = are_operations_and_exit left || (fits && is_none following);
      tests = n;
      operations = count_operations left;
    })
    (following_view fits n following)
lifted i j rest true n [] is_no = rw (is_no) refl
lifted i j rest false n [] is_no = rw (is_no) refl
lifted i j rest fits n (k ∷ following) is_no =
    lifted_then i j rest fits n (following_then (k ∷ following)) is_no

-- a first word that may be a condition
pub new_condition : (i : PlacedItem) (c : Cond) (rest : List PlacedItem) →
    condition_in i.what ≡ Some c → is_operation i ≡ false → is_exit i ≡ true →
    view_of (i ∷ rest) ≡ worded_view c 0 rest
new_condition i c [] found is_no is_one = rw found (alone i (may_have c 0) is_no is_one)
new_condition i c (j ∷ rest) found is_no is_one =
    let count : 0 + count_tests (j ∷ rest) ≡ count_tests (j ∷ rest) = omega arith in
    rw (found, count, all_tests (j ∷ rest))
    (lifted i j rest (may_have c (count_tests (j ∷ rest))) (count_tests (j ∷ rest))
    (following_tests (j ∷ rest)) is_no)

-- a test more
pub one_more_test : (i : PlacedItem) (c : Cond) (n : ℕ) (rest : List PlacedItem) →
    is_test i ≡ true → tested_view c n (i ∷ rest) ≡ tested_view c (n + 1) rest
one_more_test i c n rest is_one =
    let count : n + (count_tests rest + 1) ≡ n + 1 + count_tests rest = omega arith in
    rw (is_one, count) refl

-- no test
pub no_more_tests : (i : PlacedItem) (c : Cond) (n : ℕ) (rest : List PlacedItem) →
    is_test i ≡ false →
    tested_view c n (i ∷ rest) ≡ joined_view (may_have c n) n (following_then (i ∷ rest))
no_more_tests i c n rest is_no =
    let count : n + 0 ≡ n = omega arith in
    rw (is_no, count) refl

-- THEN, and what is in the same word
pub then_leads : (i : PlacedItem) (c : Cond) (n : ℕ) (characters : List ℕ)
    (rest : List PlacedItem) →
    is_test i ≡ false → then_in i.what ≡ Some characters → may_have c n ≡ true →
    tested_view c n (i ∷ rest) ≡ plain_view n 0 (word_on i.card characters ++ rest)
then_leads i c n characters rest is_no found fits =
    no_more_tests i c n rest is_no
    ∙ ap (λ b. joined_view b n (following_then (i ∷ rest))) fits
    ∙ ap (λ o. joined_view true n (option_map (λ cs. word_on i.card cs ++ rest) o)) found
