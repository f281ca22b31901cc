-- Rows: what a test or an operation is in an image, and the words of that.
use Rattle.std.specs.Prelude.{ℕ, List, [], ◌∷◌, ◌++◌, length, Option, unwrap_or}
use Rattle.l6_image.specs.Numerals.{no_name}
use Rattle.l6_image.specs.Bits.{bits, packed, six}
use Rattle.l6_image.specs.Version.{label_number}
use Rattle.l6_image.specs.declared.version.Version.{Version}

-- where a row may have an operand: there is none, or names, a number or codes
pub data Slot : Type 0 where
  absent : Slot
  chain : List ℕ → Slot
  number : ℕ → Slot
  text : List ℕ → Slot

-- a test or an operation in an image: its code, its operands, a field's name and a label
pub record Row : Type 0 where
  pub code : ℕ
  pub first : Slot
  pub second : Slot
  pub third : Slot
  pub field : Option ℕ
  pub label : Option ℕ

-- the row of these parts
abbrev pub row : ℕ → Slot → Slot → Slot → Option ℕ → Option ℕ → Row
row code first second third field label =
    record {
      code = code;
      first = first;
      second = second;
      third = third;
      field = field;
      label = label;
    }

-- the kind of an operand
abbrev pub kind : Slot → ℕ
kind absent = 0
kind (chain names) = 1
kind (number n) = 2
kind (text codes) = 3

-- as many words as the codes need, six in each, filled with zeros
abbrev pub sixes : List ℕ → List ℕ
sixes [] = []
sixes (a ∷ b ∷ c ∷ d ∷ e ∷ f ∷ codes) = six 0 (a ∷ b ∷ c ∷ d ∷ e ∷ f ∷ []) ∷ sixes codes
sixes codes = six 0 codes ∷ []

-- the words of an operand: none, the names, the number, or how many codes there are and the codes
abbrev pub slot_words : Slot → List ℕ
slot_words absent = []
slot_words (chain names) = six no_name names ∷ []
slot_words (number n) = n ∷ []
slot_words (text codes) = length codes ∷ sixes codes

-- the first word of a row
abbrev pub row_head : Version → Row → ℕ
row_head version row =
    packed (bits 6 row.code ∷ bits 2 (kind row.first) ∷ bits 2 (kind row.second)
    ∷ bits 2 (kind row.third) ∷ bits 6 (unwrap_or row.field no_name)
    ∷ bits 18 (label_number version row.label) ∷ [])

-- the words of a row: the first word, and those of its operands
abbrev pub row_words : Version → Row → List ℕ
row_words version row =
    row_head version row ∷ slot_words row.first ++ slot_words row.second ++ slot_words row.third
