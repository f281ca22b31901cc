-- What a body begins with, as far as a reader has to know.
use Rattle.std.specs.Prelude.{◌≡◌, ℕ, ◌+◌, ◌≤◌, ◌<◌, ◌==◌, not, ◌&&◌, ◌||◌, Bool, true, false, List, [], ◌∷◌, ◌++◌, length, filter}
use Rattle.std.specs.Str.{byte}
use Rattle.l6_word.specs.Split.{lacks}
use Rattle.l6_group.specs.Character.{is_blank}
use Rattle.l6_card.specs.Objection.{count_solid}
use Rattle.l6_card.specs.declared.item.Token.{Token}
use Rattle.l6_card.specs.declared.item.Token.TheVariants.{End, Group, Word, Unclosed, Unopened}
use Rattle.l6_card.specs.Items.{Item, group, word, unclosed, unopened, after_opening, items_of}

-- the columns, their blanks left out
abbrev pub letters_of : List ℕ → List ℕ
letters_of columns = filter (λ given. not (is_blank given)) columns

-- at this offset the body begins with a group of these columns, whose `(` has an offset of its own,
-- and then come the items of the rest, which ends where the body ends
pub record GroupFirst (offset : ℕ) (body columns rest : List ℕ) : Type 0 where
  pub opening : ℕ
  pub after : offset ≤ opening
  pub items : items_of offset body
      ≡ group opening columns ∷ items_of (opening + length columns + 2) rest
  pub ends : opening + length columns + 2 + length rest ≡ offset + length body

-- at this offset the body begins with a word of these columns, whose first letter has an offset of its
-- own, and then come the items of the rest, which ends where the body ends
pub record WordFirst (offset : ℕ) (body columns rest : List ℕ) : Type 0 where
  pub opening : ℕ
  pub after : offset ≤ opening
  pub items : items_of offset body
      ≡ word opening (opening + count_solid columns) (letters_of columns)
      ∷ items_of (opening + length columns) rest
  pub ends : opening + length columns + length rest ≡ offset + length body

-- the items begin with a `(` at this offset that no `)` closes
abbrev pub OpensFirst : ℕ → List Item → Type 0
OpensFirst opening (unclosed at ∷ items) = at ≡ opening
OpensFirst opening items = ⊥

-- at this offset the body begins with a `(` that no `)` closes, and the rest from there on ends where the
-- body ends
pub record UnclosedFirst (offset : ℕ) (body rest : List ℕ) : Type 0 where
  pub opening : ℕ
  pub after : offset ≤ opening
  pub items : OpensFirst opening (items_of offset body)
  pub ends : opening + length rest ≡ offset + length body

-- the items begin with a `)` at this offset that no `(` opens
abbrev pub ClosesAt : ℕ → List Item → Type 0
ClosesAt closing (unopened at columns ∷ items) = at ≡ closing
ClosesAt closing items = ⊥

-- at this offset the body begins with a `)` that no `(` opens, and the rest from there on ends where the
-- body ends
pub record UnopenedFirst (offset : ℕ) (body rest : List ℕ) : Type 0 where
  pub closing : ℕ
  pub after : offset ≤ closing
  pub items : ClosesAt closing (items_of offset body)
  pub ends : closing + length rest ≡ offset + length body

-- the body begins so, at each offset: it has no item, or a group or a word with the items of the
-- rest after it, or a parenthesis without its partner
abbrev pub BeginsWith : Token → List ℕ → Type 0
BeginsWith End body = (offset : ℕ) → items_of offset body ≡ []
BeginsWith (Group columns rest) body =
    (offset : ℕ) → GroupFirst offset body columns.now rest.now
BeginsWith (Word columns rest) body =
    (offset : ℕ) → WordFirst offset body columns.now rest.now
BeginsWith (Unclosed rest) body = (offset : ℕ) → UnclosedFirst offset body rest.now
BeginsWith (Unopened rest) body = (offset : ℕ) → UnopenedFirst offset body rest.now

-- no group begins with a `(` in front of these columns, at each offset
abbrev pub IsUnclosed : List ℕ → Type 0
IsUnclosed inside =
    (offset : ℕ) → OpensFirst offset (after_opening offset (items_of (offset + 1) inside))

-- the columns up to the first `)` are these, at each offset, and what follows it is the rest
pub record ClosesFirst (inside columns rest : List ℕ) : Type 0 where
  pub items : (offset : ℕ) →
      items_of offset inside
      ≡ unopened (offset + length columns) columns ∷ items_of (offset + length columns + 1) rest
  pub whole : length columns + 1 + length rest ≡ length inside

-- what follows a group or a word in a body is shorter than the body
abbrev pub IsShorter : Token → List ℕ → Type 0
IsShorter (Group columns rest) body = length rest.now < length body
IsShorter (Word columns rest) body = length rest.now < length body
IsShorter _ body = Unit {0}

-- columns begin with a blank
abbrev pub begins_with_blank : List ℕ → Bool
begins_with_blank [] = false
begins_with_blank (column ∷ columns) = is_blank column

-- columns begin with neither a blank nor a `(`
abbrev pub begins_a_word : List ℕ → Bool
begins_a_word [] = false
begins_a_word (column ∷ columns) = not (is_blank column) && not (column == byte "(")

-- columns begin with a `)`
abbrev pub begins_with_closing : List ℕ → Bool
begins_with_closing [] = false
begins_with_closing (column ∷ columns) = column == byte ")"

-- there are no columns, or the first is a parenthesis
abbrev pub begins_with_none : List ℕ → Bool
begins_with_none [] = true
begins_with_none (column ∷ columns) = column == byte "(" || column == byte ")"

-- the body is the columns in front of the first parenthesis, and those from there on
pub record IsCutAtParenthesis (body front rest : List ℕ) : Type 0 where
  pub whole : body ≡ front ++ rest
  pub no_opening : lacks (byte "(") front ≡ true
  pub no_closing : lacks (byte ")") front ≡ true
  pub rest_begins : begins_with_none rest ≡ true
