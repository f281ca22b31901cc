-- Words that are made of fields side by side.
use Rattle.std.specs.Prelude.{ℕ, ◌+◌, ◌*◌, ◌^◌, List, [], ◌∷◌, slice_index_or}

-- some bits of a word, and the number in them
pub record BitField : Type 0 where
  pub count : ℕ
  pub value : ℕ

-- so many bits, with this number in them
abbrev pub bits : ℕ → ℕ → BitField
bits count value = record { count = count; value = value }

-- how many bits fields have together
abbrev pub width : List BitField → ℕ
width [] = 0
width (field ∷ fields) = field.count + width fields

-- the word of these fields, the first one leftmost
abbrev pub packed : List BitField → ℕ
packed [] = 0
packed (field ∷ fields) = field.value * 2 ^ width fields + packed fields

-- the item at a place, as one of six fields of a word; after the last item the filling is
abbrev pub item : ℕ → List ℕ → ℕ → BitField
item filling items place = bits 6 (slice_index_or items place filling)

-- the word of the first six items
abbrev pub six : ℕ → List ℕ → ℕ
six filling items =
    packed (item filling items 0 ∷ item filling items 1 ∷ item filling items 2
    ∷ item filling items 3 ∷ item filling items 4 ∷ item filling items 5 ∷ [])
