-- The laws of reading.
use Rattle.std.specs.Prelude.{◌≡◌, ℕ, ◌+◌, ◌≤◌, ◌==◌, not, true, false, Bool, List, [], ◌∷◌, ◌++◌, length, ◌&&◌, Option, Some, None}
use Rattle.std.specs.List.{All, list_all}
use Rattle.std.specs.Str.{byte}
use Rattle.l6_word.specs.Split.{lacks}
use Rattle.l6_group.specs.Character.{is_blank}
use Rattle.l6_group.specs.Operation.{operation_of}
use Rattle.l6_group.specs.Test.{test_of}
use Rattle.l6_card.specs.declared.cards.Placed.{Placed}
use Rattle.l6_card.specs.Numerals.{most_deck_statements}
use Rattle.l6_card.specs.Items.{Item, group, word, unclosed, unopened, items_of, PlacedItem}
use Rattle.l6_card.specs.Statement.{DeckStatementParts, is_fit}
use Rattle.l6_card.specs.Spans.{bytes_at, all_spans, Rise}
use Rattle.l6_card.specs.DeckFault.{DeckFault}
use Rattle.l6_card.specs.Fault.{fault_of}
use Rattle.l6_card.specs.Form.{are_whole, are_prefix, are_within_limits}
use Rattle.l6_card.specs.Denotes.{ItemsDenote}
use Rattle.l6_card.specs.ReadsAs.{ReadsAs}

-- a deck that reads has no fault
abbrev pub ReadsOnlyWithoutFault : Type 0
ReadsOnlyWithoutFault =
    (deck : List ℕ) (statements : List DeckStatementParts) → ReadsAs deck statements →
    fault_of deck ≡ None

-- a deck without a fault reads
abbrev pub ReadsWithoutFault : Type 0
ReadsWithoutFault =
    (deck : List ℕ) → fault_of deck ≡ None →
    (statements : List DeckStatementParts) × ReadsAs deck statements

-- a deck reads in one way
abbrev pub ReadsInOneWay : Type 0
ReadsInOneWay =
    (deck : List ℕ) (one other : List DeckStatementParts) → ReadsAs deck one → ReadsAs deck other →
    one ≡ other

-- whatever statements the deck says are these
abbrev pub IsOnlyReading : List ℕ → List DeckStatementParts → Type 0
IsOnlyReading deck statements = (others : List DeckStatementParts) → ReadsAs deck others →
    others ≡ statements

-- the fault is the first objection to the deck, which does not read
pub record IsFirstFault (deck : List ℕ) (fault : DeckFault) : Type 0 where
  pub first : fault_of deck ≡ Some fault
  pub unread : (statements : List DeckStatementParts) → ReadsAs deck statements → ⊥

-- the column is no parenthesis
abbrev pub is_inner : ℕ → Bool
is_inner column = not (column == byte "(") && not (column == byte ")")

-- at its span the deck has a `(`, columns without parentheses and a `)`, and those columns read as
-- the test or the operation
pub record IsSpelled {A : Type 0} (read : List ℕ → Option A) (deck : List ℕ)
    (group : Placed A) : Type 0 where
  pub columns : List ℕ
  pub inner : list_all is_inner columns ≡ true
  pub bytes : bytes_at deck group.span ≡ byte "(" ∷ columns ++ byte ")" ∷ []
  pub reads : read columns ≡ Some group.reading

-- each test and each operation of a statement is spelled at its span
pub record AreSpelled (deck : List ℕ) (statement : DeckStatementParts) : Type 0 where
  pub tests : All (IsSpelled test_of deck) statement.tests
  pub operations : All (IsSpelled operation_of deck) statement.operations

-- what a deck says is spelled at its spans
abbrev pub GroupsAreAtSpans : Type 0
GroupsAreAtSpans =
    (deck : List ℕ) (statements : List DeckStatementParts) → ReadsAs deck statements →
    All (AreSpelled deck) statements

-- the spans of what a deck says rise, within the deck
abbrev pub SpansRise : Type 0
SpansRise =
    (deck : List ℕ) (statements : List DeckStatementParts) → ReadsAs deck statements →
    Rise 0 (all_spans statements) (length deck)

-- a `(`, columns without parentheses and a `)` are a group, whatever follows
abbrev pub GroupsAreInParentheses : Type 0
GroupsAreInParentheses =
    (offset : ℕ) (columns following : List ℕ) → list_all is_inner columns ≡ true →
    items_of offset (byte "(" ∷ columns ++ byte ")" ∷ following)
    ≡ group offset columns ∷ items_of (offset + length columns + 2) following

-- the first item is a `)` that no `(` opens
abbrev pub closes_first : List Item → Bool
closes_first (unopened closing columns ∷ items) = true
closes_first items = false

-- outside of groups blanks vanish: inside a word, in front of any item, and at the end
abbrev pub BlanksVanish : Type 0
BlanksVanish =
    (offset blank : ℕ) (columns : List ℕ) → is_blank blank ≡ true →
    closes_first (items_of (offset + 1) columns) ≡ false →
    items_of offset (blank ∷ columns) ≡ items_of (offset + 1) columns

-- a letter or the like in front of a word belongs to it
abbrev pub LettersMakeWords : Type 0
LettersMakeWords =
    (offset letter first end : ℕ) (columns letters : List ℕ) (items : List Item) →
    is_blank letter ≡ false → is_inner letter ≡ true →
    items_of (offset + 1) columns ≡ word first end letters ∷ items →
    items_of offset (letter ∷ columns) ≡ word offset end (letter ∷ letters) ∷ items

-- there is no item, or the items begin with a group: a word in front of them ends there
abbrev pub end_a_word : List Item → Bool
end_a_word [] = true
end_a_word (group offset columns ∷ items) = true
end_a_word items = false

-- a letter or the like in front of a group, and at the end, is a word of its own
abbrev pub LettersBeginWords : Type 0
LettersBeginWords =
    (offset letter : ℕ) (columns : List ℕ) →
    is_blank letter ≡ false → is_inner letter ≡ true →
    end_a_word (items_of (offset + 1) columns) ≡ true →
    items_of offset (letter ∷ columns)
    ≡ word offset (offset + 1) (letter ∷ []) ∷ items_of (offset + 1) columns

-- a `(` is unclosed where no `)` follows, or another `(` comes before it
abbrev pub OpeningsNeedClosings : Type 0
OpeningsNeedClosings =
    (offset : ℕ) (columns : List ℕ) → lacks (byte ")") columns ≡ true →
    items_of offset (byte "(" ∷ columns) ≡ unclosed offset ∷ items_of (offset + 1) columns

abbrev pub OpeningsDoNotNest : Type 0
OpeningsDoNotNest =
    (offset : ℕ) (columns following : List ℕ) → list_all is_inner columns ≡ true →
    items_of offset (byte "(" ∷ columns ++ byte "(" ∷ following)
    ≡ unclosed offset ∷ items_of (offset + 1) (columns ++ byte "(" ∷ following)

-- the statements are no more than a deck may write, and each is fit for a program
pub record AreWithinLimits (statements : List DeckStatementParts) : Type 0 where
  pub count : length statements ≤ most_deck_statements
  pub each : list_all is_fit statements ≡ true

-- items are a prefix exactly if they are a whole statement, or the beginning of one
abbrev pub PrefixesBecomeWhole : Type 0
PrefixesBecomeWhole =
    (items : List PlacedItem) → are_prefix items ≡ true →
    (more : List PlacedItem) × (are_whole (items ++ more) ≡ true)

abbrev pub BeginningsArePrefixes : Type 0
BeginningsArePrefixes =
    (items more : List PlacedItem) → are_whole (items ++ more) ≡ true → are_prefix items ≡ true

-- items are whole and within the limits exactly if they say a statement that is fit
abbrev pub WholeItemsDenote : Type 0
WholeItemsDenote =
    (items : List PlacedItem) → are_whole items ≡ true → are_within_limits items ≡ true →
    (statement : DeckStatementParts) × ItemsDenote items statement × (is_fit statement ≡ true)

abbrev pub ItemsThatDenoteAreWhole : Type 0
ItemsThatDenoteAreWhole =
    (items : List PlacedItem) (statement : DeckStatementParts) → ItemsDenote items statement →
    is_fit statement ≡ true → (are_whole items ≡ true) × (are_within_limits items ≡ true)

-- items say one statement, its label apart
abbrev pub ItemsDenoteOneStatement : Type 0
ItemsDenoteOneStatement =
    (items : List PlacedItem) (one other : DeckStatementParts) →
    ItemsDenote items one → ItemsDenote items other →
    is_fit one ≡ true → is_fit other ≡ true → one.label ≡ other.label → one ≡ other
