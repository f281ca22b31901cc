-- Values: the second operands of field operations and of tests.
use Rattle.std.specs.Prelude.{ℕ, Option, List, [], ◌∷◌}
use Rattle.std.specs.Option.{option_map}
use Rattle.l6_prog.specs.declared.operand.Operand.{Operand}
use Rattle.l6_prog.specs.declared.operand.Operand.TheVariants.{Number}
use Rattle.l6_group.specs.Element.{operand_of}
use Rattle.l6_group.specs.Number.{octal_of, text_of}
use Rattle.l6_group.specs.Spelling.{Line, ◌means◌, find_spelled, ◌>>=◌}

-- a suffix only spells the value another way: none a chain or a decimal number, O an octal number,
-- H a text
abbrev pub suffixes : List (Line (List ℕ → Option Operand))
suffixes =
    "" means operand_of
    ∷ "O" means (λ element. option_map Number (octal_of element))
    ∷ "H" means (λ element. option_map Number (text_of element))
    ∷ []

-- the value that an element spells under a suffix
abbrev pub value_of : List ℕ → List ℕ → Option Operand
value_of suffix element = do
  reading ← find_spelled suffixes suffix
  reading element
