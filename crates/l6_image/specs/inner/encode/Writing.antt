-- What is written after words.
use Rattle.std.specs.Prelude.{◌≡◌, ℕ, List, ◌++◌}
use Rattle.l6_image.specs.declared.version.Version.{Version}
use Rattle.l6_image.specs.Row.{Slot, slot_words, Row, row_words}

-- the words of a row are written after the old words
abbrev pub Writes : Version → List ℕ → List ℕ → Row → Type 0
Writes version old new row = new ≡ old ++ row_words version row

-- so are the words of an operand
abbrev pub WritesSlot : List ℕ → List ℕ → Slot → Type 0
WritesSlot old new slot = new ≡ old ++ slot_words slot
