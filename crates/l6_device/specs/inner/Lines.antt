-- The first line of a text.
use Rattle.std.specs.Prelude.{◌≡◌, ℕ, List, ◌∷◌, ◌++◌}
use Rattle.l6_device.specs.JobParts.{whole_lines, without_feed}

-- the text begins with this line, and the rest follows it
pub record BeginsWithLine (text line following : List ℕ) : Type 0 where
  pub whole : List ℕ
  pub text_is : text ≡ whole ++ following
  pub lines : whole_lines text ≡ whole ∷ whole_lines following
  pub line_is : without_feed whole ≡ line
