-- The groups that are tests.
use Rattle.std.specs.Prelude.{ℕ, Option, Some, None, List, [], ◌∷◌}
use Rattle.l6_prog.specs.declared.condition.Comparison.{Comparison}
use Rattle.l6_prog.specs.declared.condition.Comparison.TheVariants.{Equal, NotEqual, Greater, Less, AllOnes, AllZeros}
use Rattle.l6_prog.specs.declared.condition.Test.{Test}
use Rattle.l6_group.specs.Character.{spelled}
use Rattle.l6_group.specs.Element.{elements_of, chain_of}
use Rattle.l6_group.specs.Value.{value_of}
use Rattle.l6_group.specs.Spelling.{Line, ◌means◌, find_spelled, ◌>>=◌}

-- the letters of the comparisons
abbrev pub comparisons : List (Line Comparison)
comparisons =
    "E" means Equal
    ∷ "N" means NotEqual
    ∷ "G" means Greater
    ∷ "L" means Less
    ∷ "O" means AllOnes
    ∷ "Z" means AllZeros
    ∷ []

-- the comparison of this letter
abbrev pub comparison_of : ℕ → Option Comparison
comparison_of letter = find_spelled comparisons (letter ∷ [])

-- the test of a letter and a suffix: a chain, and a value that its content is compared to
abbrev pub test_by : List ℕ → List ℕ → List ℕ → Option Test
test_by [] a b = None
test_by (letter ∷ suffix) a b = do
  comparison ← comparison_of letter
  chain ← chain_of a
  operand ← value_of suffix b
  Some (record { comparison = comparison; chain = chain; operand = operand })

-- the test of three elements
abbrev pub of_three : List ℕ → List ℕ → List ℕ → Option Test
of_three a verb b = test_by (spelled verb) a b

-- the test of these elements
abbrev pub test_from : List (List ℕ) → Option Test
test_from (a ∷ verb ∷ b ∷ []) = of_three a verb b
test_from _ = None

-- the test that a group with these columns between its parentheses spells
abbrev pub test_of : List ℕ → Option Test
test_of columns = test_from (elements_of columns)
