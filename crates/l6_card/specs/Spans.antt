-- Where groups are in a deck.
use Rattle.std.specs.Prelude.{ℕ, ◌+◌, ◌≤◌, List, [], ◌∷◌, ◌++◌, length, take, drop, map}
use Rattle.l6_prog.specs.declared.condition.Test.{Test}
use Rattle.l6_prog.specs.declared.operation.Op.{Op}
use Rattle.l6_group.specs.declared.label.Label.{Label}
use Rattle.l6_card.specs.declared.cards.Placed.{Placed}
use Rattle.l6_card.specs.declared.span.Span.{Span}
use Rattle.l6_card.specs.Statement.{DeckStatementParts}

-- the span of a group whose `(` has this offset, with these columns between its parentheses
abbrev pub group_span : ℕ → List ℕ → Span
group_span offset columns = record { offset = offset; length = length columns + 2 }

-- the bytes of a deck at a span
abbrev pub bytes_at : List ℕ → Span → List ℕ
bytes_at deck span = take span.length (drop span.offset deck)

-- the spans of a statement's groups: the tests come before the operations
abbrev pub spans_of : DeckStatementParts → List Span
spans_of statement =
    map (λ (test : Placed Test). test.span) statement.tests
    ++ map (λ (operation : Placed (Op Label)). operation.span) statement.operations

-- the spans of all groups of statements, in order
abbrev pub all_spans : List DeckStatementParts → List Span
all_spans [] = []
all_spans (statement ∷ statements) = spans_of statement ++ all_spans statements

-- the first span begins at the first of these offsets or later, each other one where the one before
-- ends or later, and the last ends at the second offset or before
abbrev pub Rise : ℕ → List Span → ℕ → Type 0
Rise from [] end = from ≤ end
Rise from (span ∷ spans) end = (from ≤ span.offset) × Rise (span.offset + span.length) spans end
