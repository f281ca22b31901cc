-- Where cards begin, as the code keeps it.
use Rattle.std.specs.Prelude.{◌≡◌, ◌≤◌, ℕ, suc, ◌==◌, List, [], ◌∷◌, length, Option, Some, None, if◌then◌else◌}
use Rattle.std.specs.Str.{byte}
use Rattle.l6_place.specs.Spot.{is_last_of_end}
use Rattle.l6_place.specs.Cards.{card_start, line_spot, spot_after}
use Rattle.l6_place.specs.declared.starts.CardStart.{CardStart}

-- the line after a byte of a line
abbrev pub line_after : ℕ → ℕ → List ℕ → ℕ
line_after line first rest = if is_last_of_end first rest then suc line else line

-- where cards begin after so many bytes, on this line
abbrev pub starts_after : ℕ → ℕ → List ℕ → List CardStart
starts_after offset line [] = []
starts_after offset line (first ∷ rest) =
    if first == byte "\n" then
    record { offset = suc offset; line = line_after line first rest }
    ∷ starts_after (suc offset) (line_after line first rest) rest
    else starts_after (suc offset) (line_after line first rest) rest

abbrev pub starts_of : List ℕ → List CardStart
starts_of deck = record { offset = 0; line = 0 } ∷ starts_after 0 0 deck

-- a card begins there: so many bytes are in front of it, and its line is that of the place after these
pub record IsStartOf (deck : List ℕ) (card : ℕ) (start : CardStart) : Type 0 where
  pub offset : start.offset ≡ card_start deck card
  pub spot : spot_after (line_spot 0) start.offset deck ≡ line_spot start.line
  pub within : start.offset ≤ length deck
  pub lines : start.line ≤ start.offset

-- where a card begins, if there is such a card
abbrev pub StartsAt : List ℕ → ℕ → Option CardStart → Type 0
StartsAt deck card (Some start) = IsStartOf deck card start
StartsAt deck card None = card_start deck card ≡ length deck
