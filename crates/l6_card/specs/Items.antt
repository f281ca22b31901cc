-- The items of a card's body.
use Rattle.std.specs.Prelude.{ℕ, ◌+◌, ◌==◌, List, [], ◌∷◌, if◌then◌else◌}
use Rattle.std.specs.Str.{byte}
use Rattle.l6_group.specs.Character.{is_blank}

-- an item of a body, by offsets in the deck: a group from `(` to `)`, with the offset of its `(`; a
-- word, with the offsets of its first letter and of what follows its last; a `(` that no `)` closes,
-- with its offset; a `)` that no `(` opens, with its offset and what is before it
pub data Item : Type 0 where
  group : ℕ → List ℕ → Item
  word : ℕ → ℕ → List ℕ → Item
  unclosed : ℕ → Item
  unopened : ℕ → List ℕ → Item

-- a `(` at this offset, in front of these items
abbrev pub after_opening : ℕ → List Item → List Item
after_opening offset (unopened closing columns ∷ items) = group offset columns ∷ items
after_opening offset items = unclosed offset ∷ items

-- a blank in front of these items
abbrev pub after_blank : ℕ → List Item → List Item
after_blank blank (unopened closing columns ∷ items) = unopened closing (blank ∷ columns) ∷ items
after_blank blank items = items

-- a column that is no blank and no parenthesis, at this offset, in front of these items
abbrev pub after_letter : ℕ → ℕ → List Item → List Item
after_letter offset letter (unopened closing columns ∷ items) =
    unopened closing (letter ∷ columns) ∷ items
after_letter offset letter (word first end columns ∷ items) =
    word offset end (letter ∷ columns) ∷ items
after_letter offset letter items = word offset (offset + 1) (letter ∷ []) ∷ items

-- a column at this offset, in front of these items
abbrev pub after_column : ℕ → ℕ → List Item → List Item
after_column offset column items =
    if column == byte ")" then unopened offset [] ∷ items
    else if column == byte "(" then after_opening offset items
    else if is_blank column then after_blank column items
    else after_letter offset column items

-- the items of columns, of which the first has this offset
abbrev pub items_of : ℕ → List ℕ → List Item
items_of offset [] = []
items_of offset (column ∷ columns) = after_column offset column (items_of (offset + 1) columns)

-- an item, and the number of the card that it is on
pub record PlacedItem : Type 0 where
  pub what : Item
  pub card : ℕ

-- an item on the card of this number
abbrev pub item_on : ℕ → Item → PlacedItem
item_on number i = record { what = i; card = number }
