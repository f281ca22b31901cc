-- Fields that a program uses and does not define.
use Rattle.std.specs.Prelude.{ℕ, zero, suc, not, ◌&&◌, Bool, List, [], ◌∷◌, ◌++◌, Option, Some, None, if◌then◌else◌}
use Rattle.std.specs.List.{flat_map, list_any}
use Rattle.l6_prog.specs.Numerals.{name_count}
use Rattle.l6_prog.specs.Statement.{Parts}
use Rattle.l6_prog.specs.declared.condition.Test.{Test}
use Rattle.l6_prog.specs.declared.operand.Operand.{Operand}
use Rattle.l6_prog.specs.declared.operand.Operand.TheVariants.{Chain, Number}
use Rattle.l6_prog.specs.declared.operation.Op.{Op}
use Rattle.l6_prog.specs.declared.operation.Op.TheVariants.{Get, Duplicate, Call, Input, Set, Add, Subtract, Multiply, Divide, Remainder, And, Or, ExclusiveOr, Complement, ShiftLeft, ShiftRight, Exchange, Define, SaveContent, RestoreContent, SaveDefinition, RestoreDefinition, Free, PrintCharacters, PrintDecimal, PrintOctal, PrintText, PrintLine}
use Rattle.l6_check.specs.Ways.{is_number}
use Rattle.l6_check.specs.declared.finding.Finding.{Finding}
use Rattle.l6_check.specs.declared.reason.Reason.{Reason}
use Rattle.l6_check.specs.declared.reason.Reason.TheVariants.{Warning}
use Rattle.l6_check.specs.declared.reason.WarningReason.TheVariants.{UndefinedField}

-- the fields of a chain: all names after the bug
abbrev pub fields_of_chain : List ℕ → List ℕ
fields_of_chain [] = []
fields_of_chain (bug ∷ fields) = fields

abbrev pub fields_of_operand : Operand → List ℕ
fields_of_operand (Chain chain) = fields_of_chain chain
fields_of_operand (Number number) = []

-- those of a chain and an operand
abbrev pub fields_of_both : List ℕ → Operand → List ℕ
fields_of_both chain operand = fields_of_chain chain ++ fields_of_operand operand

-- those of a chain or an operand that need not be there
abbrev pub fields_if_chain : Option (List ℕ) → List ℕ
fields_if_chain None = []
fields_if_chain (Some chain) = fields_of_chain chain

abbrev pub fields_if_operand : Option Operand → List ℕ
fields_if_operand None = []
fields_if_operand (Some operand) = fields_of_operand operand

abbrev pub fields_of_test : Test → List ℕ
fields_of_test test = fields_of_both test.chain test.operand

-- those of an operation, row by row
abbrev pub fields_of_operation : Op ℕ → List ℕ
fields_of_operation (Set c v) = fields_of_both c v
fields_of_operation (Add c v) = fields_of_both c v
fields_of_operation (Subtract c v) = fields_of_both c v
fields_of_operation (Multiply c v) = fields_of_both c v
fields_of_operation (Divide c v) = fields_of_both c v
fields_of_operation (Remainder c v) = fields_of_both c v
fields_of_operation (And c v) = fields_of_both c v
fields_of_operation (Or c v) = fields_of_both c v
fields_of_operation (ExclusiveOr c v) = fields_of_both c v
fields_of_operation (Complement c v) = fields_of_both c v
fields_of_operation (ShiftLeft c v) = fields_of_both c v
fields_of_operation (ShiftRight c v) = fields_of_both c v
fields_of_operation (Exchange c d) = fields_of_chain c ++ fields_of_chain d
fields_of_operation (Define f w a z) =
    fields_of_operand w ++ (fields_of_operand a ++ fields_of_operand z)
fields_of_operation (SaveContent c) = fields_of_chain c
fields_of_operation (RestoreContent c) = fields_of_chain c
fields_of_operation (SaveDefinition f) = []
fields_of_operation (RestoreDefinition f) = []
fields_of_operation (Get c v d label) = fields_of_both c v ++ fields_if_chain d
fields_of_operation (Duplicate c v label) = fields_of_both c v
fields_of_operation (Free c v) = fields_of_chain c ++ fields_if_operand v
fields_of_operation (Call called fail) = []
fields_of_operation (Input c v label) = fields_of_both c v
fields_of_operation (PrintCharacters c v) = fields_of_both c v
fields_of_operation (PrintDecimal c) = fields_of_chain c
fields_of_operation (PrintOctal c) = fields_of_chain c
fields_of_operation (PrintText text) = []
fields_of_operation PrintLine = []

-- those of a statement: its tests', and its operations'
abbrev pub fields_of : Parts → List ℕ
fields_of statement =
    flat_map fields_of_test statement.tests ++ flat_map fields_of_operation statement.operations

-- the field that an operation may define: by a definition, or by one that was saved
abbrev pub defined_by : Op ℕ → List ℕ
defined_by (Define f w a z) = f ∷ []
defined_by (RestoreDefinition f) = f ∷ []
defined_by other = []

abbrev pub defined_in : Parts → List ℕ
defined_in statement = flat_map defined_by statement.operations

-- a chain of the program has the field of this number
abbrev pub is_used : List Parts → ℕ → Bool
is_used program field = list_any (is_number field) (flat_map fields_of program)

-- something in the program may define it
abbrev pub is_defined : List Parts → ℕ → Bool
is_defined program field = list_any (is_number field) (flat_map defined_in program)

-- a field is used, and not defined
abbrev pub is_undefined : (ℕ → Bool) → (ℕ → Bool) → ℕ → Bool
is_undefined used defined field = used field && not (defined field)

-- such fields among the names below this number, in their order
abbrev pub undefined_below : (ℕ → Bool) → (ℕ → Bool) → ℕ → List ℕ
undefined_below used defined zero = []
undefined_below used defined (suc last) =
    undefined_below used defined last
    ++ (if is_undefined used defined last then last ∷ [] else [])

-- the fields that a program uses and does not define
abbrev pub undefined_fields : List Parts → List ℕ
undefined_fields program = undefined_below (is_used program) (is_defined program) name_count

-- the field that a finding says to be one
abbrev pub field_on : Reason → Option ℕ
field_on (Warning (UndefinedField field)) = Some field
field_on other = None

abbrev pub field_said : Finding → Option ℕ
field_said finding = field_on finding.reason
