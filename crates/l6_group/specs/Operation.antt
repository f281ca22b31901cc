-- The groups that are operations: a line for each spelling, by the number of elements.
use Rattle.std.specs.Prelude.{ℕ, ◌==◌, Option, Some, None, List, [], ◌∷◌, if◌then◌else◌}
use Rattle.std.specs.Option.{unwrap_or}
use Rattle.std.specs.Str.{byte}
use Rattle.l6_prog.specs.declared.operand.Operand.{Operand}
use Rattle.l6_prog.specs.declared.operation.Op.{Op}
use Rattle.l6_prog.specs.declared.operation.Op.TheVariants as op
use Rattle.l6_group.specs.declared.label.Label.{Label}
use Rattle.l6_group.specs.Character.{name_of, spelled}
use Rattle.l6_group.specs.Element.{elements_of, chain_of, operand_of, field_of, chain_if_given, nothing_given}
use Rattle.l6_group.specs.Number.{print_text_of}
use Rattle.l6_group.specs.Label.{label_of}
use Rattle.l6_group.specs.Value.{value_of}
use Rattle.l6_group.specs.Spelling.{Line, ◌means◌, find_spelled, ◌>>=◌}

-- what is made of one element, two, three or four, each by its reading
abbrev pub one : {A Made : Type 0} → (List ℕ → Option A) → (A → Made) → List ℕ → Option Made
one first make a = do
  x ← first a
  Some (make x)

abbrev pub two : {A B Made : Type 0} → (List ℕ → Option A) → (List ℕ → Option B) →
    (A → B → Made) → List ℕ → List ℕ → Option Made
two first second make a b = do
  x ← first a
  y ← second b
  Some (make x y)

abbrev pub three : {A B D Made : Type 0} →
    (List ℕ → Option A) → (List ℕ → Option B) → (List ℕ → Option D) →
    (A → B → D → Made) → List ℕ → List ℕ → List ℕ → Option Made
three first second third make a b d = do
  x ← first a
  y ← second b
  z ← third d
  Some (make x y z)

abbrev pub four : {A B D E Made : Type 0} →
    (List ℕ → Option A) → (List ℕ → Option B) → (List ℕ → Option D) → (List ℕ → Option E) →
    (A → B → D → E → Made) → List ℕ → List ℕ → List ℕ → List ℕ → Option Made
four first second third fourth make a b d e = do
  x ← first a
  y ← second b
  z ← third d
  w ← fourth e
  Some (make x y z w)

-- field operations: a chain, a letter with a suffix, and a value
abbrev pub field_operations : List (Line (List ℕ → Operand → Op Label))
field_operations =
    "E" means op.Set
    ∷ "A" means op.Add
    ∷ "S" means op.Subtract
    ∷ "M" means op.Multiply
    ∷ "V" means op.Divide
    ∷ "Y" means op.Remainder
    ∷ "N" means op.And
    ∷ "O" means op.Or
    ∷ "X" means op.ExclusiveOr
    ∷ "C" means op.Complement
    ∷ "L" means op.ShiftLeft
    ∷ "R" means op.ShiftRight
    ∷ []

-- the field operation of this letter
abbrev pub with_letter : ℕ → List ℕ → Operand → Option (Op Label)
with_letter letter chain value = do
  make ← find_spelled field_operations (letter ∷ [])
  Some (make chain value)

-- the field operation of a letter and a suffix
abbrev pub field_operation : List ℕ → List ℕ → List ℕ → Option (Op Label)
field_operation [] a b = None
field_operation (letter ∷ suffix) a b = do
  chain ← chain_of a
  value ← value_of suffix b
  with_letter letter chain value

-- operations on the pushdown of contents
abbrev pub content_operations : List (Line (List ℕ → Option (Op Label)))
content_operations =
    "S" means one chain_of op.SaveContent
    ∷ "R" means one chain_of op.RestoreContent
    ∷ []

abbrev pub content_operation : List ℕ → List ℕ → Option (Op Label)
content_operation verb chain = do
  reading ← find_spelled content_operations (spelled verb)
  reading chain

-- operations on the pushdown of definitions
abbrev pub definition_operations : List (Line (List ℕ → Option (Op Label)))
definition_operations =
    "S" means one field_of op.SaveDefinition
    ∷ "R" means one field_of op.RestoreDefinition
    ∷ []

abbrev pub definition_operation : List ℕ → List ℕ → Option (Op Label)
definition_operation verb field = do
  reading ← find_spelled definition_operations (spelled verb)
  reading field

-- operations of one element, which says what is done
abbrev pub spellings_of_one : List (Line (Op Label))
spellings_of_one = "PL" means op.PrintLine ∷ []

-- operations of two elements, of which the second says what is done
abbrev pub spellings_of_two : List (Line (List ℕ → Option (Op Label)))
spellings_of_two =
    "FR" means one chain_of (λ c. op.Free c None)
    ∷ "DO" means one label_of (λ l. op.Call l None)
    ∷ "PD" means one chain_of op.PrintDecimal
    ∷ "PO" means one chain_of op.PrintOctal
    ∷ "PH" means one print_text_of op.PrintText
    ∷ []

-- operations of three elements, of which the second says what is done
abbrev pub spellings_of_three : List (Line (List ℕ → List ℕ → Option (Op Label)))
spellings_of_three =
    "I" means two chain_of chain_of op.Exchange
    ∷ "FC" means content_operation
    ∷ "FD" means definition_operation
    ∷ "GT" means two chain_of operand_of (λ c v. op.Get c v None None)
    ∷ "DP" means two chain_of operand_of (λ c v. op.Duplicate c v None)
    ∷ "FR" means two chain_of operand_of (λ c v. op.Free c (Some v))
    ∷ "DO" means two label_of label_of (λ l fail. op.Call l (Some fail))
    ∷ "IN" means two chain_of operand_of (λ c v. op.Input c v None)
    ∷ "PR" means two chain_of operand_of op.PrintCharacters
    ∷ []

-- operations of four elements, of which the second says what is done
abbrev pub spellings_of_four : List (Line (List ℕ → List ℕ → List ℕ → Option (Op Label)))
spellings_of_four =
    "GT" means three chain_of operand_of chain_of (λ c v d. op.Get c v (Some d) None)
    ∷ "IN" means three chain_of operand_of label_of (λ c v l. op.Input c v (Some l))
    ∷ []

-- the field that characters define: they are D and the field's name
abbrev pub defined_field : List ℕ → Option ℕ
defined_field (letter ∷ field ∷ []) = if letter == byte "D" then name_of field else None
defined_field _ = None

-- the definition of a field by its word, its first bit and its last bit
abbrev pub definition : List ℕ → List ℕ → List ℕ → List ℕ → Option (Op Label)
definition verb word first last = do
  field ← defined_field verb
  three operand_of operand_of operand_of (op.Define field) word first last

-- operations of five elements, of which the second says what is done
abbrev pub spellings_of_five : List (Line (List ℕ → List ℕ → List ℕ → List ℕ → Option (Op Label)))
spellings_of_five =
    "GT" means four chain_of operand_of chain_if_given label_of (λ c v d l. op.Get c v d (Some l))
    ∷ "DP" means four chain_of operand_of nothing_given label_of
    (λ c v n l. op.Duplicate c v (Some l))
    ∷ []

-- the operation of one element, and of two to five
abbrev pub of_one : List ℕ → Option (Op Label)
of_one verb = find_spelled spellings_of_one (spelled verb)

abbrev pub of_two : List ℕ → List ℕ → Option (Op Label)
of_two a verb = do
  reading ← find_spelled spellings_of_two (spelled verb)
  reading a

abbrev pub of_three : List ℕ → List ℕ → List ℕ → Option (Op Label)
of_three a verb b =
    unwrap_or (find_spelled spellings_of_three (spelled verb)) (field_operation (spelled verb)) a b

abbrev pub of_four : List ℕ → List ℕ → List ℕ → List ℕ → Option (Op Label)
of_four a verb b d =
    unwrap_or (find_spelled spellings_of_four (spelled verb)) (definition (spelled verb)) a b d

abbrev pub of_five : List ℕ → List ℕ → List ℕ → List ℕ → List ℕ → Option (Op Label)
of_five a verb b d e = do
  reading ← find_spelled spellings_of_five (spelled verb)
  reading a b d e

-- the operation of these elements: their number decides how they are read
abbrev pub operation_from : List (List ℕ) → Option (Op Label)
operation_from (verb ∷ []) = of_one verb
operation_from (a ∷ verb ∷ []) = of_two a verb
operation_from (a ∷ verb ∷ b ∷ []) = of_three a verb b
operation_from (a ∷ verb ∷ b ∷ d ∷ []) = of_four a verb b d
operation_from (a ∷ verb ∷ b ∷ d ∷ e ∷ []) = of_five a verb b d e
operation_from _ = None

-- the operation that a group with these columns between its parentheses spells
abbrev pub operation_of : List ℕ → Option (Op Label)
operation_of columns = operation_from (elements_of columns)
