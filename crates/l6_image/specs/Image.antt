-- Images: the words of programs.
use Rattle.std.specs.Prelude.{ℕ, ◌≤◌, List, [], ◌∷◌, ◌++◌, length, Option, Some, None, unwrap_or}
use Rattle.std.specs.List.{flat_map}
use Rattle.l6_prog.specs.declared.condition.Cond.{Cond}
use Rattle.l6_prog.specs.declared.condition.Cond.TheVariants.{Always, If, Not, IfAll, IfAny, IfNone, IfNotAll}
use Rattle.l6_prog.specs.declared.condition.Test.{Test}
use Rattle.l6_prog.specs.declared.operation.Op.{Op}
use Rattle.l6_prog.specs.declared.exit.Exit.{Exit}
use Rattle.l6_prog.specs.declared.exit.Exit.TheVariants.{Next, Label, Done, Fail}
use Rattle.l6_prog.specs.Statement.{Parts}
use Rattle.l6_prog.specs.Program.{IsProgram}
use Rattle.l6_image.specs.Bits.{bits, packed}
use Rattle.l6_image.specs.Row.{row_words}
use Rattle.l6_image.specs.Table.{row_of, row_of_test}
use Rattle.l6_image.specs.Version.{magic, most_in}
use Rattle.l6_image.specs.declared.version.Version.{Version}
use Rattle.l6_image.specs.declared.version.Version.TheVariants.{Two}

-- the code of a condition
abbrev pub condition_code : Cond → ℕ
condition_code Always = 0
condition_code If = 1
condition_code Not = 2
condition_code IfAll = 3
condition_code IfAny = 4
condition_code IfNone = 5
condition_code IfNotAll = 6

-- the code of an exit
abbrev pub exit_code : Exit ℕ → ℕ
exit_code Next = 0
exit_code (Label target) = 1
exit_code Done = 2
exit_code Fail = 3

-- the target of an exit, if it has one
abbrev pub exit_target : Exit ℕ → Option ℕ
exit_target (Label target) = Some target
exit_target _ = None

-- the first word of a statement, with the target of its exit, or 0, in the last 18 bits
abbrev pub header : Parts → ℕ
header statement =
    packed (bits 3 (condition_code statement.condition) ∷ bits 6 (length statement.tests)
    ∷ bits 6 (length statement.operations) ∷ bits 3 (exit_code statement.exit)
    ∷ bits 18 (unwrap_or (exit_target statement.exit) 0) ∷ [])

-- the words of a test, and of an operation
abbrev pub test_words : Version → Test → List ℕ
test_words version test = row_words version (row_of_test test)

abbrev pub operation_words : Version → Op ℕ → List ℕ
operation_words version operation = row_words version (row_of operation)

-- the words of a statement: the first word, its tests, its operations
abbrev pub words_in_statement : Version → Parts → List ℕ
words_in_statement version statement =
    header statement ∷ flat_map (test_words version) statement.tests
    ++ flat_map (operation_words version) statement.operations

-- the words of all statements
abbrev pub body : Version → List Parts → List ℕ
body version program = flat_map (words_in_statement version) program

-- the words of a program: the magic word, how many statements it has, how many words follow, and these
unfoldable pub words_in : Version → List Parts → List ℕ
words_in version program =
    magic version ∷ length program ∷ length (body version program) ∷ body version program

-- what is written is of the second version
abbrev pub statement_words : Parts → List ℕ
statement_words statement = words_in_statement Two statement

abbrev pub words_of : List Parts → List ℕ
words_of program = words_in Two program

-- the statements are a program, which has an image of this version
pub record HasImage (version : Version) (program : List Parts) : Type 0 where
  pub is : IsProgram program
  pub few : length program ≤ most_in version
