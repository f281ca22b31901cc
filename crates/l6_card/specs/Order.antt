-- The order of a statement's items: what may follow those so far, and why another item may not.
use Rattle.std.specs.Prelude.{◌==◌, ◌&&◌, not, Bool, List, [], ◌∷◌, ◌++◌, codes, if◌then◌else◌}
use Rattle.std.specs.Option.{is_some}
use Rattle.l6_card.specs.declared.objection.Reason.{Reason}
use Rattle.l6_card.specs.declared.objection.Reason.TheVariants.{Unclosed, Unopened, NoOperation, TestForOperation, NoTest, OperationForTest, ThenMissing, SecondTest, NoCondition, AfterExit, NoExit, NoThen}
use Rattle.l6_card.specs.Items.{Item, group, word, unclosed, unopened, PlacedItem, item_on}
use Rattle.l6_card.specs.Form.{operation_in, test_in, then_in, body_of, are_whole, are_prefix, tests_among, count_operations}

-- what may follow: an operation or an exit; a test, after a condition word; a test or THEN; nothing, after
-- a word that is no condition; nothing, after another exit
pub data Expected : Type 0 where
  operation_or_exit : Expected
  first_test : Expected
  test_or_then : Expected
  none_after_word : Expected
  none_after_exit : Expected

-- an operation, and a test
abbrev pub an_operation : PlacedItem
an_operation = item_on 0 (group 0 (codes "PL"))

abbrev pub a_test : PlacedItem
a_test = item_on 0 (group 0 (codes "A,E,0"))

-- what may follow an exit: there is no other item where items have no tests and no operations
abbrev pub none_after : Bool → Expected
none_after alone = if alone then none_after_word else none_after_exit

-- what may follow items that are a prefix of a statement: what leaves them one. Those that are not whole
-- are a condition and tests.
abbrev pub expected_after : List PlacedItem → Expected
expected_after items =
    if are_prefix (items ++ an_operation ∷ []) then operation_or_exit
    else if not (are_whole items) then test_or_then
    else if are_prefix (items ++ a_test ∷ []) then first_test
    else none_after (tests_among items == 0 && count_operations (body_of items) == 0)

-- why a group may not stand next, where it is a test or not, and an operation or not
abbrev pub group_reason : Expected → Bool → Bool → Reason
group_reason operation_or_exit is_test is_operation =
    if is_test then TestForOperation else NoOperation
group_reason first_test is_test is_operation = if is_operation then OperationForTest else NoTest
group_reason test_or_then is_test is_operation =
    if is_test then SecondTest else if is_operation then ThenMissing else NoTest
group_reason none_after_word is_test is_operation = NoCondition
group_reason none_after_exit is_test is_operation = AfterExit

-- why a word may not stand next, where it begins with THEN or not
abbrev pub word_reason : Expected → Bool → Reason
word_reason operation_or_exit has_then = NoExit
word_reason test_or_then has_then = if has_then then NoExit else NoThen
word_reason _ has_then = AfterExit

-- why an item may not stand next
abbrev pub reason_at : Expected → Item → Reason
reason_at expected (group offset columns) =
    group_reason expected (is_some (test_in (group offset columns)))
    (is_some (operation_in (group offset columns)))
reason_at expected (word first end columns) =
    word_reason expected (is_some (then_in (word first end columns)))
reason_at expected (unclosed offset) = Unclosed
reason_at expected (unopened offset columns) = Unopened
