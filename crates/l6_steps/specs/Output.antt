-- How lists begin, as the outputs of one run do.
use Rattle.std.specs.Prelude.{◌≡◌, ℕ, ◌⊎◌, List, ◌++◌}

-- the first list is the beginning of the second
pub record IsBeginning (front whole : List ℕ) : Type 0 where
  pub rest : List ℕ
  pub is : whole ≡ front ++ rest

-- the shorter of two lists is the beginning of the other
abbrev pub BeginAlike : List ℕ → List ℕ → Type 0
BeginAlike one other = IsBeginning one other ⊎ IsBeginning other one
