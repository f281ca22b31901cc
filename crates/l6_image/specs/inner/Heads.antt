-- The first words of rows, with kinds in place of operands.
use Rattle.std.specs.Prelude.{ℕ, [], ◌∷◌, unwrap_or}
use Rattle.l6_image.specs.declared.head.OperandKind.{OperandKind}
use Rattle.l6_image.specs.declared.head.OperandKind.TheVariants.{Absent, Chain, Number, Text}
use Rattle.l6_image.specs.declared.head.Head.{Head}
use Rattle.l6_image.specs.Numerals.{no_name}
use Rattle.l6_image.specs.Bits.{bits, packed}
use Rattle.l6_image.specs.Version.{label_number}
use Rattle.l6_image.specs.declared.version.Version.{Version}

-- the number of a kind
abbrev pub kind_code : OperandKind → ℕ
kind_code Absent = 0
kind_code Chain = 1
kind_code Number = 2
kind_code Text = 3

-- the first word of a row
abbrev pub head_word : Version → Head → ℕ
head_word version head =
    packed (bits 6 head.code ∷ bits 2 (kind_code head.first) ∷ bits 2 (kind_code head.second)
    ∷ bits 2 (kind_code head.third) ∷ bits 6 (unwrap_or head.field no_name)
    ∷ bits 18 (label_number version head.label) ∷ [])
