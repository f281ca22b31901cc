-- Why a group is no operation, or no test, and where.
use Rattle.std.specs.Prelude.{ℕ, ◌+◌, ◌==◌, nat_lt, ◌&&◌, ◌||◌, Bool, false, is_some, Option, Some, None, List, [], ◌∷◌, length, codes, if◌then◌else◌}
use Rattle.std.specs.List.{list_all, list_any}
use Rattle.std.specs.Str.{bytes_eq}
use Rattle.l6_group.specs.declared.fault.Shape.{Shape}
use Rattle.l6_group.specs.declared.fault.GroupFault.{GroupFault}
use Rattle.l6_group.specs.declared.fault.GroupFault.TheVariants.{Spelling, EmptyElement, TooFew, TooMany, CommaInText, WordFirst, FieldFirst, Element}
use Rattle.l6_group.specs.declared.fault.GroupObjection.{GroupObjection}
use Rattle.l6_group.specs.Character.{is_blank, spelled}
use Rattle.l6_group.specs.Element.{elements_of, field_of}
use Rattle.l6_group.specs.Number.{decimal_of}
use Rattle.l6_group.specs.Operation.{defined_field}
use Rattle.l6_group.specs.Shape.{fits, operation_shapes, test_shapes, shapes_of_one, shapes_of_two, shapes_of_three}
use Rattle.l6_group.specs.Spelling.{find_spelled}

-- something is wrong with an element that begins here
abbrev pub at_element : ℕ → List ℕ → GroupFault → GroupObjection
at_element start element fault =
    record { start = start; length = length element; fault = fault }

-- something is wrong with the whole group
abbrev pub whole_group : List ℕ → GroupFault → GroupObjection
whole_group columns fault = at_element 0 columns fault

-- what is wrong with an element that is not what it has to be
abbrev pub element_fault : Shape → List ℕ → GroupFault
element_fault shape element =
    if list_all is_blank element then EmptyElement else Element shape

-- the objection to the first element that is not what it has to be; the first one begins here
abbrev pub first_misfit : ℕ → List Shape → List (List ℕ) → Option GroupObjection
first_misfit start [] elements = None
first_misfit start (shape ∷ shapes) [] = None
first_misfit start (shape ∷ shapes) (element ∷ elements) =
    if fits shape element then first_misfit (start + length element + 1) shapes elements
    else Some (at_element start element (element_fault shape element))

-- the element that says what a group is: the second one, or the only one; and where it begins
abbrev pub word_of : List (List ℕ) → List ℕ
word_of [] = []
word_of (word ∷ []) = word
word_of (first ∷ word ∷ others) = word

abbrev pub word_start : List (List ℕ) → ℕ
word_start [] = 0
word_start (word ∷ []) = 0
word_start (first ∷ word ∷ others) = length first + 1

abbrev pub at_word : List (List ℕ) → GroupFault → GroupObjection
at_word elements fault = at_element (word_start elements) (word_of elements) fault

-- the first element, and the last one
abbrev pub first_of : List (List ℕ) → List ℕ
first_of [] = []
first_of (first ∷ others) = first

abbrev pub last_of : List (List ℕ) → List ℕ
last_of [] = []
last_of (last ∷ []) = last
last_of (first ∷ second ∷ others) = last_of (second ∷ others)

-- an operation of arithmetic or logic with a text is spelled so: a letter and H
abbrev pub takes_text : List ℕ → Bool
takes_text (letter ∷ suffix) = bytes_eq (codes "H") suffix
takes_text [] = false

-- an operation is spelled so: with so many elements, with more, or with any number of them
abbrev pub may_have : List ℕ → ℕ → Bool
may_have word count = is_some (operation_shapes count word)

abbrev pub may_have_more : ℕ → List ℕ → Bool
may_have_more count word =
    list_any (λ number. nat_lt count number && may_have word number) (2 ∷ 3 ∷ 4 ∷ 5 ∷ [])

abbrev pub spells_operation : List ℕ → Bool
spells_operation word = may_have word 1 || may_have_more 1 word

-- the word of an operation, of two letters
abbrev pub is_operation_word : List ℕ → Bool
is_operation_word word =
    length word == 2
    && (is_some (find_spelled shapes_of_one word) || is_some (find_spelled shapes_of_two word)
    || is_some (find_spelled shapes_of_three word))

-- the text of an operation seems to have a comma: there are more elements than its spelling has
abbrev pub has_comma_in_text : List (List ℕ) → Bool
has_comma_in_text elements =
    (nat_lt 3 (length elements) && takes_text (spelled (word_of elements)))
    || (nat_lt 2 (length elements) && bytes_eq (codes "PH") (spelled (last_of elements)))

-- a definition seems to begin with its field, with D before it or without: a number comes second
abbrev pub begins_with_field : List (List ℕ) → Bool
begins_with_field elements =
    is_some (decimal_of (word_of elements))
    && (is_some (defined_field (spelled (first_of elements)))
    || (length elements == 4 && is_some (field_of (first_of elements))))

-- the objection to a group that is spelled as no operation of so many elements is
abbrev pub unspelled_operation : List ℕ → List (List ℕ) → GroupObjection
unspelled_operation columns elements =
    if list_all is_blank (word_of elements) then at_word elements EmptyElement
    else if has_comma_in_text elements then whole_group columns CommaInText
    else if is_operation_word (spelled (first_of elements)) then whole_group columns WordFirst
    else if may_have_more (length elements) (spelled (word_of elements)) then whole_group
    columns TooFew
    else if spells_operation (spelled (word_of elements)) then whole_group columns TooMany
    else if begins_with_field elements then whole_group columns FieldFirst
    else at_word elements Spelling

-- the objection to a group that is spelled as no test of three elements is
abbrev pub unspelled_test : List ℕ → List (List ℕ) → GroupObjection
unspelled_test columns elements =
    if list_all is_blank (word_of elements) then at_word elements EmptyElement
    else if is_some (test_shapes (spelled (word_of elements))) then whole_group columns
    (if nat_lt (length elements) 3 then TooFew
    else if takes_text (spelled (word_of elements)) then CommaInText else TooMany)
    else at_word elements Spelling

-- what elements have to be as an operation, by its word and their number; and as a test, if they are
-- three
abbrev pub shapes_of_operation : List (List ℕ) → Option (List Shape)
shapes_of_operation elements = operation_shapes (length elements) (spelled (word_of elements))

abbrev pub shapes_of_test : List (List ℕ) → Option (List Shape)
shapes_of_test elements = if length elements == 3 then test_shapes (spelled (word_of elements)) else None

-- the objection to elements that have to be these, or else this one
abbrev pub objection_by : Option (List Shape) → List (List ℕ) → GroupObjection → Option GroupObjection
objection_by (Some shapes) elements otherwise = first_misfit 0 shapes elements
objection_by None elements otherwise = Some otherwise

-- the objection to elements as an operation, and as a test; there is none if they are one
abbrev pub operation_objection_from : List ℕ → List (List ℕ) → Option GroupObjection
operation_objection_from columns elements =
    objection_by (shapes_of_operation elements) elements (unspelled_operation columns elements)

abbrev pub test_objection_from : List ℕ → List (List ℕ) → Option GroupObjection
test_objection_from columns elements =
    objection_by (shapes_of_test elements) elements (unspelled_test columns elements)

-- the objection to a group with these columns between its parentheses
abbrev pub operation_objection : List ℕ → Option GroupObjection
operation_objection columns = operation_objection_from columns (elements_of columns)

abbrev pub test_objection : List ℕ → Option GroupObjection
test_objection columns = test_objection_from columns (elements_of columns)
