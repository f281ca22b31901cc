-- What is no deck: what follows a line that separates the parts of a job, and images.
use Rattle.std.specs.Prelude.{ℕ, ◌||◌, Bool, List, [], ◌∷◌, codes, Option, Some, None, if◌then◌else◌}
use Rattle.std.specs.Str.{bytes_eq}
use Rattle.l6_word.specs.Lines.{lines_of, without_return}
use Rattle.l6_word.specs.Octal.{is_octal12}
use Rattle.l6_group.specs.Character.{spelled}
use Rattle.l6_card.specs.Card.{columns_of}
use Rattle.l6_check.specs.declared.finding.Finding.{Finding}
use Rattle.l6_check.specs.declared.reason.Reason.{Reason}
use Rattle.l6_check.specs.declared.reason.Reason.TheVariants.{Warning}
use Rattle.l6_check.specs.declared.reason.WarningReason.TheVariants.{ImageText}

-- the characters are those of a line that separates the parts of a job
abbrev pub are_mark : List ℕ → Bool
are_mark characters =
    bytes_eq (codes "$INPUT") characters || bytes_eq (codes "$COMMANDS") characters

-- the line reads as such a one, blanks left out
abbrev pub is_mark : List ℕ → Bool
is_mark line = are_mark (spelled (columns_of line))

-- lines up to the first that reads so, with it
abbrev pub lines_to_mark : List (List ℕ) → List (List ℕ)
lines_to_mark [] = []
lines_to_mark (line ∷ lines) = if is_mark line then line ∷ [] else line ∷ lines_to_mark lines

-- the line looks like one of an image: twelve octal digits, and nothing else
abbrev pub is_image_line : List ℕ → Bool
is_image_line line = is_octal12 (without_return line)

-- the first card of lines, if it looks so
abbrev pub image_in : List (List ℕ) → List ℕ
image_in [] = []
image_in (line ∷ lines) = if is_image_line line then 1 ∷ [] else []

-- the first card of a deck, if it begins as the text of an image does
abbrev pub image_cards : List ℕ → List ℕ
image_cards deck = image_in (lines_of deck)

-- the card that a finding says to be of an image
abbrev pub image_said : ℕ → Reason → Option ℕ
image_said card (Warning ImageText) = Some card
image_said card other = None

abbrev pub image_card : Finding → Option ℕ
image_card finding = image_said finding.card finding.reason
