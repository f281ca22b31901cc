-- A group is objected to exactly if it has no reading.
use Rattle.std.proofs.Common.{◌≡◌, ℕ, ◌<◌, List, [], ◌∷◌, length, codes, is_some, Bool, true, false, Option, Some, None, bytes_eq, ap, sym, refl, ◌∙◌, arith}
use Rattle.std.specs.Prelude.{not, if◌then◌else◌}
use Rattle.std.specs.Option.{option_or, unwrap_or, option_map, MatchOption}
use Rattle.std.proofs.lemmas.Bool.{ne_eqb}
use Rattle.l6_prog.specs.declared.operand.Operand.{Operand}
use Rattle.l6_prog.specs.declared.operand.Operand.TheVariants.{Number}
use Rattle.l6_prog.specs.declared.operation.Op.{Op}
use Rattle.l6_prog.specs.declared.operation.Op.TheVariants as op
use Rattle.l6_group.specs.declared.label.Label.{Label}
use Rattle.l6_group.specs.declared.fault.Shape.{Shape}
use Rattle.l6_group.specs.declared.fault.Shape.TheVariants as shape
use Rattle.l6_group.specs.declared.fault.GroupObjection.{GroupObjection}
use Rattle.l6_group.specs.Character.{spelled}
use Rattle.l6_group.specs.Element.{chain_of, operand_of, field_of, chain_if_given, nothing_given}
use Rattle.l6_group.specs.Number.{octal_of, text_of, print_text_of}
use Rattle.l6_group.specs.Label.{label_of}
use Rattle.l6_group.specs.Value.{value_of}
use Rattle.l6_group.specs.Spelling.{find_spelled, ◌>>=◌}
use Rattle.l6_group.specs.Operation.{one, two, three, four, of_one, of_two, of_three, of_four, of_five, operation_from, field_operation, field_operations, definition, defined_field}
use Rattle.l6_group.specs.Test.{test_from, test_by, comparison_of}
use Rattle.l6_group.specs.Shape.{fits, operation_shapes, test_shapes, arithmetic_shapes, shapes_suffixed, definition_shapes}
use Rattle.l6_group.specs.Objection.{objection_by, operation_objection_from, test_objection_from, unspelled_operation}

-- elements that have to be these are objected to exactly if nothing is made of them
abbrev Same : {Made : Type 0} → Option (List Shape) → List (List ℕ) → Option Made → Type 0
Same shapes elements made =
    (otherwise : GroupObjection) →
    is_some (objection_by shapes elements otherwise) ≡ not (is_some made)

-- what is first found in both tables, or else what comes after it
line : {S R Made : Type 0} (hit : Bool) (shapes : Option S → Option (List Shape))
    (make : Option R → Option Made) (s : S) (r : R) (other_s : Option S) (other_r : Option R)
    (elements : List (List ℕ)) →
    Same (shapes (Some s)) elements (make (Some r)) → Same (shapes other_s) elements (make other_r) →
    Same (shapes (if hit then Some s else other_s)) elements (make (if hit then Some r else other_r))
line true shapes make s r other_s other_r elements here there = here
line false shapes make s r other_s other_r elements here there = there

-- two, three and four readings
of_two_exact : {A B Made : Type 0} (x : Option A) (y : Option B) (make : A → B → Made)
    (first second : GroupObjection) →
    is_some (if is_some x then (if is_some y then None else Some second) else Some first)
    ≡ not (is_some (two (λ e. x) (λ e. y) make [] []))
of_two_exact None y make first second = refl
of_two_exact (Some x) None make first second = refl
of_two_exact (Some x) (Some y) make first second = refl

of_three_exact : {A B D Made : Type 0} (x : Option A) (y : Option B) (z : Option D)
    (make : A → B → D → Made) (first second third : GroupObjection) →
    is_some
    (if is_some x then
    (if is_some y then (if is_some z then None else Some third) else Some second) else Some first)
    ≡ not (is_some (three (λ e. x) (λ e. y) (λ e. z) make [] [] []))
of_three_exact None y z make first second third = refl
of_three_exact (Some x) None z make first second third = refl
of_three_exact (Some x) (Some y) None make first second third = refl
of_three_exact (Some x) (Some y) (Some z) make first second third = refl

of_four_exact : {A B D E Made : Type 0} (x : Option A) (y : Option B) (z : Option D) (w : Option E)
    (make : A → B → D → E → Made) (first second third fourth : GroupObjection) →
    is_some
    (if is_some x then
    (if is_some y then
    (if is_some z then (if is_some w then None else Some fourth) else Some third) else Some second)
    else Some first)
    ≡ not (is_some (four (λ e. x) (λ e. y) (λ e. z) (λ e. w) make [] [] [] []))
of_four_exact None y z w make first second third fourth = refl
of_four_exact (Some x) None z w make first second third fourth = refl
of_four_exact (Some x) (Some y) None w make first second third fourth = refl
of_four_exact (Some x) (Some y) (Some z) None make first second third fourth = refl
of_four_exact (Some x) (Some y) (Some z) (Some w) make first second third fourth = refl

of_one_exact : {A Made : Type 0} (x : Option A) (make : A → Made) (first : GroupObjection) →
    is_some (if is_some x then None else Some first) ≡ not (is_some (one (λ e. x) make []))
of_one_exact None make first = refl
of_one_exact (Some x) make first = refl

is_one : {A Made : Type 0} (x : Option A) (make : A → Made) →
    is_some (one (λ e. x) make []) ≡ is_some x
is_one None make = refl
is_one (Some x) make = refl

-- operations of one element, and of two
one_exact : (verb : List ℕ) → Same (operation_shapes 1 (spelled verb)) (verb ∷ []) (of_one verb)
one_exact verb =
    line (bytes_eq (codes "PL") (spelled verb)) (λ o. o) (λ r. r) _ _ _ _ (verb ∷ []) (λ o. refl)
    (λ o. refl)

two_exact : (a verb : List ℕ) → Same (operation_shapes 2 (spelled verb)) (a ∷ verb ∷ []) (of_two a verb)
two_exact a verb =
    let w = spelled verb in
    let elements = a ∷ verb ∷ [] in
    let make : Option (List ℕ → Option (Op Label)) → Option (Op Label) = λ r. r >>= (λ reading. reading a) in
    let shapes : Option (List Shape) → Option (List Shape) = λ o. o in
    line (bytes_eq (codes "FR") w) shapes make _ _ _ _ elements (λ o. of_one_exact (chain_of a) _ _)
    (line (bytes_eq (codes "DO") w) shapes make _ _ _ _ elements (λ o. of_one_exact (label_of a) _ _)
    (line (bytes_eq (codes "PD") w) shapes make _ _ _ _ elements (λ o. of_one_exact (chain_of a) _ _)
    (line (bytes_eq (codes "PO") w) shapes make _ _ _ _ elements (λ o. of_one_exact (chain_of a) _ _)
    (line (bytes_eq (codes "PH") w) shapes make _ _ _ _ elements (λ o. of_one_exact (print_text_of a) _ _)
    (λ o. refl)))))

-- a value: nothing is made of it exactly if it is objected to
value_exact : {A Made : Type 0} (letter : Option A) (a verb b : List ℕ) (value : Shape)
    (read : List ℕ → Option Operand) (make : A → List ℕ → Operand → Made) →
    is_some (read b) ≡ fits value b →
    Same (if is_some letter then Some (shape.Chain ∷ shape.Spelling ∷ value ∷ []) else None)
    (a ∷ verb ∷ b ∷ [])
    (three (λ e. letter) chain_of read make [] a b)
value_exact None a verb b value read make fit otherwise = refl
value_exact (Some letter) a verb b value read make fit otherwise =
    rw (← fit) (of_two_exact (chain_of a) (read b) (make letter) _ _)

is_some_map : {A B : Type 0} (f : A → B) (x : Option A) → is_some (option_map f x) ≡ is_some x
is_some_map f None = refl
is_some_map f (Some x) = refl

-- a letter without a value
no_value : {A B Made : Type 0} (letter : Option A) (x : Option B) (make : A → B → Operand → Made)
    (otherwise : GroupObjection) (elements : List (List ℕ)) →
    is_some (objection_by (if is_some letter then None else None) elements otherwise)
    ≡ not (is_some (three (λ e. letter) (λ e. x) (λ e. None) make [] [] []))
no_value None x make otherwise elements = refl
no_value (Some letter) None make otherwise elements = refl
no_value (Some letter) (Some x) make otherwise elements = refl

-- a letter with a suffix
suffixed_exact : {A Made : Type 0} (letter : Option A) (a verb b suffix : List ℕ)
    (make : A → List ℕ → Operand → Made) →
    Same (if is_some letter then shapes_suffixed suffix else None) (a ∷ verb ∷ b ∷ [])
    (three (λ e. letter) chain_of (value_of suffix) make [] a b)
suffixed_exact {A} {Made} letter a verb b suffix make =
    let elements = a ∷ verb ∷ b ∷ [] in
    let shapes : Option Shape → Option (List Shape) =
    λ v. if is_some letter then (v >>= (λ value. Some (shape.Chain ∷ shape.Spelling ∷ value ∷ []))) else None in
    let made : Option (List ℕ → Option Operand) → Option Made =
    λ r. three (λ e. letter) chain_of (λ e. r >>= (λ reading. reading e)) make [] a b in
    line (bytes_eq (codes "") suffix) shapes made _ _ _ _ elements
    (value_exact letter a verb b shape.Operand operand_of make refl)
    (line (bytes_eq (codes "O") suffix) shapes made _ _ _ _ elements
    (value_exact letter a verb b shape.Octal (λ e. option_map Number (octal_of e)) make
    (is_some_map Number (octal_of b)))
    (line (bytes_eq (codes "H") suffix) shapes made _ _ _ _ elements
    (value_exact letter a verb b shape.Text (λ e. option_map Number (text_of e)) make
    (is_some_map Number (text_of b)))
    (λ o. no_value letter (chain_of a) make o elements)))

-- the letter may be looked for last
letter_last : {A B Made : Type 0} (letter : Option (A → B → Made)) (x : Option A) (y : Option B) →
    is_some (three (λ e. letter) (λ e. x) (λ e. y) (λ make p q. make p q) [] [] [])
    ≡ is_some (x >>= (λ p. y >>= (λ q. letter >>= (λ make. Some (make p q)))))
letter_last None None y = refl
letter_last None (Some x) None = refl
letter_last None (Some x) (Some y) = refl
letter_last (Some letter) None y = refl
letter_last (Some letter) (Some x) None = refl
letter_last (Some letter) (Some x) (Some y) = refl

arithmetic_exact : (a verb b w : List ℕ) →
    Same (arithmetic_shapes w) (a ∷ verb ∷ b ∷ []) (field_operation w a b)
arithmetic_exact a verb b [] otherwise = refl
arithmetic_exact a verb b (letter ∷ suffix) otherwise =
    let letters = find_spelled field_operations (letter ∷ []) in
    suffixed_exact letters a verb b suffix (λ make p q. make p q) otherwise
    ∙ ap not (letter_last letters (chain_of a) (value_of suffix b))

-- S or R, and what is made by it
not_fitting : (fit : Bool) (second : GroupObjection) →
    is_some (if fit then None else Some second) ≡ not fit
not_fitting true second = refl
not_fitting false second = refl

by_either : {A : Type 0} (saves restores fit : Bool) (s r : A) (save restore : List ℕ → Option (Op Label))
    (b : List ℕ) (first second : GroupObjection) → is_some (save b) ≡ fit → is_some (restore b) ≡ fit →
    is_some
    (if is_some (if saves then Some s else if restores then Some r else None) then
    (if fit then None else Some second) else Some first)
    ≡ not (is_some
    ((if saves then Some save else if restores then Some restore else None) >>= (λ reading. reading b)))
by_either true restores fit s r save restore b first second saved restored =
    not_fitting fit second ∙ ap not (sym saved)
by_either false true fit s r save restore b first second saved restored =
    not_fitting fit second ∙ ap not (sym restored)
by_either false false fit s r save restore b first second saved restored = refl

-- operations of three elements
three_exact : (a verb b : List ℕ) →
    Same (operation_shapes 3 (spelled verb)) (a ∷ verb ∷ b ∷ []) (of_three a verb b)
three_exact a verb b =
    let w = spelled verb in
    let elements = a ∷ verb ∷ b ∷ [] in
    let shapes : Option (List Shape) → Option (List Shape) = λ o. option_or o (arithmetic_shapes w) in
    let make : Option (List ℕ → List ℕ → Option (Op Label)) → Option (Op Label) =
    λ r. unwrap_or r (field_operation w) a b in
    let saves = bytes_eq (codes "S") (spelled a) in
    let restores = bytes_eq (codes "R") (spelled a) in
    line (bytes_eq (codes "I") w) shapes make _ _ _ _ elements
    (λ o. of_two_exact (chain_of a) (chain_of b) _ _ _)
    (line (bytes_eq (codes "FC") w) shapes make _ _ _ _ elements
    (λ o. by_either saves restores (is_some (chain_of b)) _ _ _ _ b _ _
    (is_one (chain_of b) op.SaveContent) (is_one (chain_of b) op.RestoreContent))
    (line (bytes_eq (codes "FD") w) shapes make _ _ _ _ elements
    (λ o. by_either saves restores (is_some (field_of b)) _ _ _ _ b _ _
    (is_one (field_of b) op.SaveDefinition) (is_one (field_of b) op.RestoreDefinition))
    (line (bytes_eq (codes "GT") w) shapes make _ _ _ _ elements
    (λ o. of_two_exact (chain_of a) (operand_of b) _ _ _)
    (line (bytes_eq (codes "DP") w) shapes make _ _ _ _ elements
    (λ o. of_two_exact (chain_of a) (operand_of b) _ _ _)
    (line (bytes_eq (codes "FR") w) shapes make _ _ _ _ elements
    (λ o. of_two_exact (chain_of a) (operand_of b) _ _ _)
    (line (bytes_eq (codes "DO") w) shapes make _ _ _ _ elements
    (λ o. of_two_exact (label_of a) (label_of b) _ _ _)
    (line (bytes_eq (codes "IN") w) shapes make _ _ _ _ elements
    (λ o. of_two_exact (chain_of a) (operand_of b) _ _ _)
    (line (bytes_eq (codes "PR") w) shapes make _ _ _ _ elements
    (λ o. of_two_exact (chain_of a) (operand_of b) _ _ _)
    (arithmetic_exact a verb b w)))))))))

-- the definition of a field
abbrev define : List ℕ → List ℕ → List ℕ → ℕ → Option (Op Label)
define a b d field = three operand_of operand_of operand_of (op.Define field) a b d

defined_exact : (field : Option ℕ) (a verb b d : List ℕ) →
    Same (if is_some field then Some
    (shape.Operand ∷ shape.Spelling ∷ shape.Operand ∷ shape.Operand ∷ []) else None)
    (a ∷ verb ∷ b ∷ d ∷ [])
    (field >>= define a b d)
defined_exact None a verb b d otherwise = refl
defined_exact (Some field) a verb b d otherwise =
    of_three_exact (operand_of a) (operand_of b) (operand_of d) (op.Define field) _ _ _

-- operations of four elements, and of five
four_exact : (a verb b d : List ℕ) →
    Same (operation_shapes 4 (spelled verb)) (a ∷ verb ∷ b ∷ d ∷ []) (of_four a verb b d)
four_exact a verb b d =
    let w = spelled verb in
    let elements = a ∷ verb ∷ b ∷ d ∷ [] in
    let shapes : Option (List Shape) → Option (List Shape) = λ o. option_or o (definition_shapes w) in
    let make : Option (List ℕ → List ℕ → List ℕ → Option (Op Label)) → Option (Op Label) =
    λ r. unwrap_or r (definition w) a b d in
    line (bytes_eq (codes "GT") w) shapes make _ _ _ _ elements
    (λ o. of_three_exact (chain_of a) (operand_of b) (chain_of d) _ _ _ _)
    (line (bytes_eq (codes "IN") w) shapes make _ _ _ _ elements
    (λ o. of_three_exact (chain_of a) (operand_of b) (label_of d) _ _ _ _)
    (defined_exact (defined_field w) a verb b d))

five_exact : (a verb b d e : List ℕ) →
    Same (operation_shapes 5 (spelled verb)) (a ∷ verb ∷ b ∷ d ∷ e ∷ []) (of_five a verb b d e)
five_exact a verb b d e =
    let w = spelled verb in
    let elements = a ∷ verb ∷ b ∷ d ∷ e ∷ [] in
    let shapes : Option (List Shape) → Option (List Shape) = λ o. o in
    let make : Option (List ℕ → List ℕ → List ℕ → List ℕ → Option (Op Label)) → Option (Op Label) =
    λ r. r >>= (λ reading. reading a b d e) in
    line (bytes_eq (codes "GT") w) shapes make _ _ _ _ elements
    (λ o. of_four_exact (chain_of a) (operand_of b) (chain_if_given d) (label_of e) _ _ _ _ _)
    (line (bytes_eq (codes "DP") w) shapes make _ _ _ _ elements
    (λ o. of_four_exact (chain_of a) (operand_of b) (nothing_given d) (label_of e) _ _ _ _ _)
    (λ o. refl))

-- no operation has more
many_shapes : (count : ℕ) (w : List ℕ) → 5 < count → operation_shapes count w ≡ None
many_shapes count w many =
    rw (
      ne_eqb count 1 (λ same. omega arith),
      ne_eqb count 2 (λ same. omega arith),
      ne_eqb count 3 (λ same. omega arith),
      ne_eqb count 4 (λ same. omega arith),
      ne_eqb count 5 (λ same. omega arith),
    ) refl

-- elements are objected to exactly if they are no operation
pub operation_exact : (columns : List ℕ) (elements : List (List ℕ)) →
    is_some (operation_objection_from columns elements) ≡ not (is_some (operation_from elements))
operation_exact columns [] = refl
operation_exact columns (verb ∷ []) = one_exact verb _
operation_exact columns (a ∷ verb ∷ []) = two_exact a verb _
operation_exact columns (a ∷ verb ∷ b ∷ []) = three_exact a verb b _
operation_exact columns (a ∷ verb ∷ b ∷ d ∷ []) = four_exact a verb b d _
operation_exact columns (a ∷ verb ∷ b ∷ d ∷ e ∷ []) = five_exact a verb b d e _
operation_exact columns (a ∷ verb ∷ b ∷ d ∷ e ∷ f ∷ others) =
    let elements = a ∷ verb ∷ b ∷ d ∷ e ∷ f ∷ others in
    let many : operation_shapes (length elements) (spelled verb) ≡ None =
    many_shapes (length elements) (spelled verb) (omega arith) in
    ap (λ shapes. is_some (objection_by shapes elements (unspelled_operation columns elements))) many

-- tests of three elements
test_three : (a verb b w : List ℕ) → Same (test_shapes w) (a ∷ verb ∷ b ∷ []) (test_by w a b)
test_three a verb b [] otherwise = refl
test_three a verb b (letter ∷ suffix) otherwise =
    suffixed_exact (comparison_of letter) a verb b suffix _ otherwise

-- elements are objected to exactly if they are no test
pub test_exact : (columns : List ℕ) (elements : List (List ℕ)) →
    is_some (test_objection_from columns elements) ≡ not (is_some (test_from elements))
test_exact columns [] = refl
test_exact columns (verb ∷ []) = refl
test_exact columns (a ∷ verb ∷ []) = refl
test_exact columns (a ∷ verb ∷ b ∷ []) = test_three a verb b (spelled verb) _
test_exact columns (a ∷ verb ∷ b ∷ d ∷ others) =
    let elements = a ∷ verb ∷ b ∷ d ∷ others in
    rw (ne_eqb (length elements) 3 (λ same. omega arith)) refl

-- what has no objection is made, and what has one is not
pub told : {Made : Type 0} (objection : Option GroupObjection) (made : Option Made) →
    is_some objection ≡ not (is_some made) →
    MatchOption objection (is_some made ≡ true) (λ o. made ≡ None)
told None None opposite = cc
told None (Some x) opposite = refl
told (Some o) None opposite = refl
told (Some o) (Some x) opposite = cc
