-- The kinds of cards, as a reader sees them.
use Rattle.std.specs.Prelude.{ℕ, ◌+◌, ◌≤◌, length}
use Rattle.l6_card.specs.declared.card.Body.{Body as Kept}
use Rattle.l6_card.specs.declared.card.Kind.{Kind}
use Rattle.l6_card.specs.declared.card.Kind.TheVariants.{Skipped, Plain, Labelled, Continued, Unknown}
use Rattle.l6_card.specs.Card.{Body, Card, skipped, plain, labelled, continued, unknown}

-- the body that a reader has
abbrev pub body_seen : Kept → Body
body_seen body =
    record {
      card = body.card;
      offset = body.offset;
      front = body.front.now;
      columns = body.columns.now;
    }

-- the card of this kind, with this number; a label is what is in front of its body
abbrev pub card_seen : ℕ → Kind → Card
card_seen number Skipped = skipped
card_seen number (Plain body) = plain (body_seen body)
card_seen number (Labelled body) = labelled body.front.now (body_seen body)
card_seen number (Continued body) = continued (body_seen body)
card_seen number Unknown = unknown number

-- the body ends at this offset or before, and what is in front of it is in the deck
pub record EndsByOffset (end : ℕ) (body : Kept) : Type 0 where
  pub ends : body.offset + length body.columns.now ≤ end
  pub begins : length body.front.now ≤ body.offset

-- the body of the card, if it has one, ends at this offset or before
abbrev pub KindEndsBy : ℕ → Kind → Type 0
KindEndsBy end (Plain body) = EndsByOffset end body
KindEndsBy end (Labelled body) = EndsByOffset end body
KindEndsBy end (Continued body) = EndsByOffset end body
KindEndsBy end _ = Unit {0}
