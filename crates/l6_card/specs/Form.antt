-- The forms that the items of a statement have: `[condition test.. THEN] operation.. [exit]`.
use Rattle.std.specs.Prelude.{ℕ, ◌+◌, Bool, true, false, ◌&&◌, ◌||◌, List, [], ◌∷◌, ◌++◌, nat_le, Option, Some, None, if◌then◌else◌}
use Rattle.std.specs.List.{list_all}
use Rattle.std.specs.Option.{is_some, option_map, unwrap_or}
use Rattle.l6_prog.specs.Numerals.{most_tests, most_operations}
use Rattle.l6_prog.specs.Program.{may_have}
use Rattle.l6_prog.specs.declared.condition.Cond.{Cond}
use Rattle.l6_prog.specs.declared.condition.Test.{Test}
use Rattle.l6_prog.specs.declared.operation.Op.{Op}
use Rattle.l6_prog.specs.declared.exit.Exit.{Exit}
use Rattle.l6_group.specs.declared.label.Label.{Label}
use Rattle.l6_group.specs.Character.{spelled}
use Rattle.l6_group.specs.Operation.{operation_of}
use Rattle.l6_group.specs.Test.{test_of}
use Rattle.l6_group.specs.Word.{exit_from, condition_from, after_then}
use Rattle.l6_card.specs.Items.{Item, group, word, PlacedItem, item_on}

-- what an item spells: a group may be an operation and a test, a word an exit and a condition
abbrev pub operation_in : Item → Option (Op Label)
operation_in (group offset columns) = operation_of columns
operation_in _ = None

abbrev pub test_in : Item → Option Test
test_in (group offset columns) = test_of columns
test_in _ = None

abbrev pub exit_in : Item → Option (Exit Label)
exit_in (word first end columns) = exit_from (spelled columns)
exit_in _ = None

abbrev pub condition_in : Item → Option Cond
condition_in (word first end columns) = condition_from (spelled columns)
condition_in _ = None

-- the characters after the THEN that a word begins with
abbrev pub then_in : Item → Option (List ℕ)
then_in (word first end columns) = after_then (spelled columns)
then_in _ = None

-- the item spells an operation, a test, an exit
abbrev pub is_operation : PlacedItem → Bool
is_operation i = is_some (operation_in i.what)

abbrev pub is_test : PlacedItem → Bool
is_test i = is_some (test_in i.what)

abbrev pub is_exit : PlacedItem → Bool
is_exit i = is_some (exit_in i.what)

-- operations, also none, and then at most one exit
abbrev pub are_operations_and_exit : List PlacedItem → Bool
are_operations_and_exit [] = true
are_operations_and_exit (i ∷ []) = is_operation i || is_exit i
are_operations_and_exit (i ∷ items) = is_operation i && are_operations_and_exit items

-- the characters that follow THEN in the same word are a word of their own, if there are any; its place
-- tells nothing
abbrev pub word_on : ℕ → List ℕ → List PlacedItem
word_on card [] = []
word_on card characters = item_on card (word 0 0 characters) ∷ []

-- what follows the THEN that items begin with; `THENL` is THEN and the word `L`
abbrev pub following_then : List PlacedItem → Option (List PlacedItem)
following_then [] = None
following_then (i ∷ items) =
    option_map (λ characters. word_on i.card characters ++ items) (then_in i.what)

-- how many tests items begin with, and what follows those
abbrev pub count_tests : List PlacedItem → ℕ
count_tests [] = 0
count_tests (i ∷ items) = if is_test i then count_tests items + 1 else 0

abbrev pub following_tests : List PlacedItem → List PlacedItem
following_tests [] = []
following_tests (i ∷ items) = if is_test i then following_tests items else i ∷ items

-- there is a condition, which may have so many tests
abbrev pub needs : Option Cond → ℕ → Bool
needs None tests = false
needs (Some condition) tests = may_have condition tests

-- the item is a condition word, and it may have as many tests as follow it
abbrev pub has_its_tests : PlacedItem → List PlacedItem → Bool
has_its_tests i items = needs (condition_in i.what) (count_tests items)

-- what follows the condition that items begin with: a condition word, its tests and THEN
abbrev pub following_condition : List PlacedItem → Option (List PlacedItem)
following_condition [] = None
following_condition (i ∷ items) =
    if has_its_tests i items then following_then (following_tests items) else None

-- the body of the items: what follows their condition, and all where they have none
abbrev pub body_of : List PlacedItem → List PlacedItem
body_of items = unwrap_or (following_condition items) items

-- the items are a whole statement: their body is operations and an exit. A condition word alone is
-- an exit, to the label of that name.
abbrev pub are_whole : List PlacedItem → Bool
are_whole items = are_operations_and_exit (body_of items)

-- the items are a condition word and its tests, which THEN has to follow
abbrev pub are_condition_and_tests : List PlacedItem → Bool
are_condition_and_tests [] = false
are_condition_and_tests (i ∷ items) = has_its_tests i items && list_all is_test items

-- the items are a prefix of a statement: they are a whole statement, or need a THEN to become one
abbrev pub are_prefix : List PlacedItem → Bool
are_prefix items = are_whole items || are_condition_and_tests items

-- how many tests are among items: those after a condition word
abbrev pub tests_among : List PlacedItem → ℕ
tests_among [] = 0
tests_among (i ∷ items) = if is_some (condition_in i.what) then count_tests items else 0

-- how many operations items begin with
abbrev pub count_operations : List PlacedItem → ℕ
count_operations [] = 0
count_operations (i ∷ items) = if is_operation i then count_operations items + 1 else 0

-- there are no more tests, and no more operations, than a statement may have
abbrev pub are_within_limits : List PlacedItem → Bool
are_within_limits items =
    nat_le (tests_among items) most_tests
    && nat_le (count_operations (body_of items)) most_operations
