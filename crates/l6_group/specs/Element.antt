-- The elements of a group: names, chains and operands.
use Rattle.std.specs.Prelude.{ℕ, ◌==◌, Bool, Option, Some, None, List, [], ◌∷◌, if◌then◌else◌}
use Rattle.std.specs.Option.{option_map, option_or}
use Rattle.std.specs.List.{list_all, slice_split}
use Rattle.std.specs.Str.{byte}
use Rattle.l6_prog.specs.Chain.{is_chain}
use Rattle.l6_prog.specs.declared.operand.Operand.{Operand}
use Rattle.l6_prog.specs.declared.operand.Operand.TheVariants.{Chain, Number}
use Rattle.l6_group.specs.Character.{is_blank, name_of}
use Rattle.l6_group.specs.Spelling.{◌>>=◌}
use Rattle.l6_group.specs.Number.{each_read, decimal_of}

-- the byte is a comma
abbrev pub is_comma : ℕ → Bool
is_comma given = given == byte ","

-- the elements of a group: its parts between commas
abbrev pub elements_of : List ℕ → List (List ℕ)
elements_of columns = slice_split is_comma columns

-- the names of an element, its blanks left out; none where another character is in it
abbrev pub names_of : List ℕ → Option (List ℕ)
names_of element = each_read name_of element

-- the chain of these names
abbrev pub chain_from : List ℕ → Option (List ℕ)
chain_from names = if is_chain names then Some names else None

-- the chain that an element spells
abbrev pub chain_of : List ℕ → Option (List ℕ)
chain_of element = names_of element >>= chain_from

-- the operand that an element spells: a chain or a decimal number
abbrev pub operand_of : List ℕ → Option Operand
operand_of element =
    option_or (option_map Chain (chain_of element)) (option_map Number (decimal_of element))

-- the field that these names name: there is one
abbrev pub field_from : List ℕ → Option ℕ
field_from (name ∷ []) = Some name
field_from _ = None

-- the field that an element names
abbrev pub field_of : List ℕ → Option ℕ
field_of element = names_of element >>= field_from

-- the chain that an element spells, if it has anything but blanks
abbrev pub chain_if_given : List ℕ → Option (Option (List ℕ))
chain_if_given element =
    if list_all is_blank element then Some None else option_map Some (chain_of element)

-- the element has nothing but blanks
abbrev pub nothing_given : List ℕ → Option (Unit {0})
nothing_given element = if list_all is_blank element then Some tt else None
