-- The text of a part with a stand-in for what objects.
use Rattle.std.specs.Prelude.{◌≡◌, ℕ, ◌+◌, ◌≤◌, List, Some, length}
use Rattle.l6_word.specs.Lines.{lines_of}
use Rattle.l6_card.specs.declared.objection.Objection.{Objection}
use Rattle.l6_check.specs.declared.parts.Part.{Part}
use Rattle.l6_check.specs.Statements.{mended, stand_in}
use Rattle.l6_check.specs.inner.Parts.{lines_in}

-- these bytes are the lines of the part with the columns that stand in for what objects, and no more bytes
-- than there were
pub record AreMended (objection : Objection) (part : Part) (bytes : List ℕ) : Type 0 where
  pub columns : List ℕ
  pub stand : stand_in objection ≡ Some columns
  pub lines : lines_of bytes ≡ mended objection columns (part.before + 1) (lines_in part)
  pub fewer : length bytes ≤ length part.text.now
