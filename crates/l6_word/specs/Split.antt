-- Cutting bytes at a separator.
use Rattle.std.specs.Prelude.{◌≡◌, ℕ, ◌==◌, not, Bool, true, List, ◌∷◌, ◌++◌}
use Rattle.std.specs.List.{list_all}

-- the separator is nowhere in these bytes
abbrev pub lacks : ℕ → List ℕ → Bool
lacks separator bytes = list_all (λ byte. not (byte == separator)) bytes

-- the bytes are those in front of the first separator, the separator, and those after it
pub record IsCutAt (separator : ℕ) (bytes front following : List ℕ) : Type 0 where
  pub whole : bytes ≡ front ++ separator ∷ following
  pub first : lacks separator front ≡ true
