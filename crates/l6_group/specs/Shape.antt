-- What the elements of groups have to be: a line for each spelling, by the number of elements.
use Rattle.std.specs.Prelude.{ℕ, ◌==◌, Bool, true, is_some, Option, Some, None, List, [], ◌∷◌, if◌then◌else◌}
use Rattle.std.specs.Option.{option_or}
use Rattle.l6_group.specs.declared.fault.Shape.{Shape}
use Rattle.l6_group.specs.declared.fault.Shape.TheVariants.{Spelling, Chain, Operand, Octal, Text, LongText, Label, Field, OptionalChain, Nothing, SaveOrRestore}
use Rattle.l6_group.specs.Character.{spelled}
use Rattle.l6_group.specs.Element.{chain_of, operand_of, field_of, chain_if_given, nothing_given}
use Rattle.l6_group.specs.Number.{octal_of, text_of, print_text_of}
use Rattle.l6_group.specs.Label.{label_of}
use Rattle.l6_group.specs.Operation.{content_operations, field_operations, defined_field}
use Rattle.l6_group.specs.Test.{comparison_of}
use Rattle.l6_group.specs.Spelling.{Line, ◌means◌, find_spelled, ◌>>=◌}

-- the element is what it has to be
abbrev pub fits : Shape → List ℕ → Bool
fits Spelling element = true
fits Chain element = is_some (chain_of element)
fits Operand element = is_some (operand_of element)
fits Octal element = is_some (octal_of element)
fits Text element = is_some (text_of element)
fits LongText element = is_some (print_text_of element)
fits Label element = is_some (label_of element)
fits Field element = is_some (field_of element)
fits OptionalChain element = is_some (chain_if_given element)
fits Nothing element = is_some (nothing_given element)
fits SaveOrRestore element = is_some (find_spelled content_operations (spelled element))

-- what the value of a spelling with this suffix has to be
abbrev pub suffix_shapes : List (Line Shape)
suffix_shapes = "" means Operand ∷ "O" means Octal ∷ "H" means Text ∷ []

-- what the elements have to be of a test, or of an operation of arithmetic or logic, with this suffix
abbrev pub shapes_suffixed : List ℕ → Option (List Shape)
shapes_suffixed suffix = do
  value ← find_spelled suffix_shapes suffix
  Some (Chain ∷ Spelling ∷ value ∷ [])

-- those of an operation of arithmetic or logic that is spelled so
abbrev pub arithmetic_shapes : List ℕ → Option (List Shape)
arithmetic_shapes [] = None
arithmetic_shapes (letter ∷ suffix) =
    if is_some (find_spelled field_operations (letter ∷ [])) then shapes_suffixed suffix else None

-- those of a test that is spelled so
abbrev pub test_shapes : List ℕ → Option (List Shape)
test_shapes [] = None
test_shapes (letter ∷ suffix) =
    if is_some (comparison_of letter) then shapes_suffixed suffix else None

-- those of operations of one element, of two and of three
abbrev pub shapes_of_one : List (Line (List Shape))
shapes_of_one = "PL" means (Spelling ∷ []) ∷ []

abbrev pub shapes_of_two : List (Line (List Shape))
shapes_of_two =
    "FR" means (Chain ∷ Spelling ∷ [])
    ∷ "DO" means (Label ∷ Spelling ∷ [])
    ∷ "PD" means (Chain ∷ Spelling ∷ [])
    ∷ "PO" means (Chain ∷ Spelling ∷ [])
    ∷ "PH" means (LongText ∷ Spelling ∷ [])
    ∷ []

abbrev pub shapes_of_three : List (Line (List Shape))
shapes_of_three =
    "I" means (Chain ∷ Spelling ∷ Chain ∷ [])
    ∷ "FC" means (SaveOrRestore ∷ Spelling ∷ Chain ∷ [])
    ∷ "FD" means (SaveOrRestore ∷ Spelling ∷ Field ∷ [])
    ∷ "GT" means (Chain ∷ Spelling ∷ Operand ∷ [])
    ∷ "DP" means (Chain ∷ Spelling ∷ Operand ∷ [])
    ∷ "FR" means (Chain ∷ Spelling ∷ Operand ∷ [])
    ∷ "DO" means (Label ∷ Spelling ∷ Label ∷ [])
    ∷ "IN" means (Chain ∷ Spelling ∷ Operand ∷ [])
    ∷ "PR" means (Chain ∷ Spelling ∷ Operand ∷ [])
    ∷ []

-- those of operations of four, and of five
abbrev pub shapes_of_four : List (Line (List Shape))
shapes_of_four =
    "GT" means (Chain ∷ Spelling ∷ Operand ∷ Chain ∷ [])
    ∷ "IN" means (Chain ∷ Spelling ∷ Operand ∷ Label ∷ [])
    ∷ []

abbrev pub shapes_of_five : List (Line (List Shape))
shapes_of_five =
    "GT" means (Chain ∷ Spelling ∷ Operand ∷ OptionalChain ∷ Label ∷ [])
    ∷ "DP" means (Chain ∷ Spelling ∷ Operand ∷ Nothing ∷ Label ∷ [])
    ∷ []

-- those of the definition of a field that is spelled so
abbrev pub definition_shapes : List ℕ → Option (List Shape)
definition_shapes word =
    if is_some (defined_field word) then Some (Operand ∷ Spelling ∷ Operand ∷ Operand ∷ []) else None

-- those of an operation of so many elements that is spelled so
abbrev pub operation_shapes : ℕ → List ℕ → Option (List Shape)
operation_shapes count word =
    if count == 1 then find_spelled shapes_of_one word
    else if count == 2 then find_spelled shapes_of_two word
    else if count == 3 then option_or (find_spelled shapes_of_three word) (arithmetic_shapes word)
    else if count == 4 then option_or (find_spelled shapes_of_four word) (definition_shapes word)
    else if count == 5 then find_spelled shapes_of_five word
    else None
