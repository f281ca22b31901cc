-- Statements, read from words.
use Rattle.std.specs.Prelude.{ℕ, zero, suc, ◌/◌, ◌%◌, ◌^◌, ◌==◌, List, [], ◌∷◌, ◌++◌, Option, Some, None, if◌then◌else◌}
use Rattle.l6_prog.specs.declared.condition.Cond.{Cond}
use Rattle.l6_prog.specs.declared.condition.Cond.TheVariants.{Always, If, Not, IfAll, IfAny, IfNone, IfNotAll}
use Rattle.l6_prog.specs.declared.condition.Test.{Test}
use Rattle.l6_prog.specs.declared.exit.Exit.{Exit}
use Rattle.l6_prog.specs.declared.exit.Exit.TheVariants.{Next, Label, Done, Fail}
use Rattle.l6_prog.specs.declared.operation.Op.{Op}
use Rattle.l6_prog.specs.Statement.{Parts}
use Rattle.l6_image.specs.declared.version.Version.{Version}
use Rattle.l6_image.specs.Row.{Row}
use Rattle.l6_image.specs.inner.decode.Fields.{target_in}
use Rattle.l6_image.specs.inner.decode.Reading.{◌>>=◌, first_of, row_at}
use Rattle.l6_image.specs.inner.decode.Back.{test_of, operation_of}

-- a test or an operation, by what a row stands for
unfoldable pub item_at : {A : Type 0} → (Row → Option A) → Version → List ℕ → Option (A × List ℕ)
item_at meaning version words = do
  row ← row_at version words
  item ← meaning row.0
  Some (item, row.1)

-- a test
abbrev pub test_at : Version → List ℕ → Option (Test × List ℕ)
test_at version words = item_at test_of version words

-- an operation
abbrev pub operation_at : Version → List ℕ → Option (Op ℕ × List ℕ)
operation_at version words = item_at operation_of version words

-- so many of them
abbrev pub many : {A : Type 0} → (List ℕ → Option (A × List ℕ)) → ℕ → List ℕ →
    Option (List A × List ℕ)
many at zero words = Some ([], words)
many at (suc count) words = do
  first ← at words
  others ← many at count first.1
  Some (first.0 ∷ others.0, others.1)

-- these in front of those that were found
abbrev pub with_front : {A : Type 0} → List A → Option (List A × List ℕ) → Option (List A × List ℕ)
with_front front None = None
with_front front (Some found) = Some (front ++ found.0, found.1)

-- the condition of a code
abbrev pub condition_in : ℕ → Cond
condition_in code =
    if code == 0 then Always
    else if code == 1 then If
    else if code == 2 then Not
    else if code == 3 then IfAll
    else if code == 4 then IfAny
    else if code == 5 then IfNone
    else IfNotAll

-- the exit of a code, with its target
abbrev pub exit_in : ℕ → ℕ → Exit ℕ
exit_in code target =
    if code == 0 then Next
    else if code == 1 then Label target
    else if code == 2 then Done
    else Fail

-- a statement
unfoldable pub statement_at : Version → List ℕ → Option (Parts × List ℕ)
statement_at version words = do
  head ← first_of words
  tests ← many (test_at version) (head.0 / 2 ^ 27 % 64) head.1
  operations ← many (operation_at version) (head.0 / 2 ^ 21 % 64) tests.1
  Some (
    record {
      condition = condition_in (head.0 / 2 ^ 33 % 8);
      tests = tests.0;
      operations = operations.0;
      exit = exit_in (head.0 / 2 ^ 18 % 8) (target_in head.0);
    },
    operations.1,
  )

-- the statements of an image's words after its magic word
unfoldable pub statements_of : Version → List ℕ → Option (List Parts)
statements_of version words = do
  count ← first_of words
  size ← first_of count.1
  statements ← many (statement_at version) count.0 size.1
  Some statements.0
