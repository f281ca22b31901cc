-- How the parts of a deck are gone through.
use Rattle.std.specs.Prelude.{◌≡◌, ℕ, ◌+◌, ◌<◌, ◌≤◌, List, ◌∷◌, length, take}
use Rattle.l6_word.specs.Lines.{lines_of}
use Rattle.l6_check.specs.declared.parts.Part.{Part}
use Rattle.l6_check.specs.declared.parts.Parts.{Parts}
use Rattle.l6_check.specs.Statements.{parts_of}

-- the lines of a part
abbrev pub lines_in : Part → List (List ℕ)
lines_in part = take part.count (lines_of part.text.now)

-- the part is the next one, and these are left after it
pub record IsNextPart (before : Parts) (part : Part) (after : Parts) : Type 0 where
  pub number : part.before ≡ before.before
  pub text : part.text.now ≡ before.rest.now
  pub left : after.before ≡ before.before + part.count
  pub parts : parts_of (lines_of before.rest.now) ≡ lines_in part ∷ parts_of (lines_of after.rest.now)
  pub counted : length (lines_in part) ≡ part.count
  pub positive : 0 < part.count
  pub fewer : part.count + length after.rest.now ≤ length before.rest.now
  pub shorter : length after.rest.now < length before.rest.now
